-- Two halves of a list, each arranged where it lies, and merged.
use Prim.Native.Nat.{ℕ, ◌-◌, ◌/◌, ◌≤◌}
use mathlib.Core.Path.{◌≡◌, ap, ◌∙◌}
use mathlib.Core.List.{List, ◌++◌, append-nil}
use mathlib.Core.Bool.{Bool}
use native.Mathlib.Omega.{arith}
use lib.ListN.{length, take, drop, length-take, length-drop, length-append, take-append-drop, drop_of_length-le}
use lib.Seq.{take_all, take_at, drop_at}
use borrow.Rule.Slice.PartMut.{put_mid}
use Rattle.arrangement.specs.Arranged.{arranged, merge}
use Rattle.arrangement.specs.Laws.{Order}
use Rattle.arrangement.specs.Prefixes.{prefix_before}
use Rattle.arrangement.proofs.Merging.{arranged_length, halves}
use Rattle.arrangement.proofs.Prefixes.{prefix_order, by_key}
use Rattle.charset.specs.declared.Charset.{Charset}
use Rattle.linetable.specs.Table.{start_in}
use Rattle.prefixes.specs.Words.{words_at}
use Rattle.mergesort.specs.Inner.{placed_before}

pub placed_order : (set : Charset) (dict bases offsets : List ℕ) → Order (placed_before set dict bases offsets)
unfolding placed_before
placed_order set dict bases offsets = by_key (λ e. words_at set dict (start_in dict bases offsets e)) prefix_order

-- the starts that were looked up decide
pub placed_is : (set : Charset) (dict bases offsets : List ℕ) (a b : ℕ) {i j : ℕ} {r : Bool} → i ≡ start_in dict bases offsets a → j ≡ start_in dict bases offsets b
    → r ≡ prefix_before (words_at set dict i) (words_at set dict j) → r ≡ placed_before set dict bases offsets a b
unfolding placed_before
placed_is set dict bases offsets a b e f g = g ∙ (λ k. prefix_before (words_at set dict (e k)) (words_at set dict (f k)))

pub half_most : (n : ℕ) → n / 2 ≤ n
half_most n = omega arith

-- the first h arranged where they lie, then those after them, and the two merged
module _ (before : ℕ → ℕ → Bool) (o : Order before) (list left right out : List ℕ) (h n : ℕ) (m : h ≤ length list) (e : n ≡ length (left ++ drop h list))
    (l : left ≡ arranged before (take h list))
    (r : right ≡ arranged before (take (n - h) (drop h (left ++ drop h list))))
    (w : out ≡ merge before (take h (put_mid h (n - h) (left ++ drop h list) right)) (drop h (put_mid h (n - h) (left ++ drop h list) right))) where
  one : List ℕ
  one = left ++ drop h list

  left_length : length left ≡ h
  left_length = ap length l ∙ arranged_length before (take h list) ∙ omega (arith, length-take h list)

  same_length : n ≡ length list
  same_length = e ∙ length-append left (drop h list) ∙ omega (arith, left_length, length-drop h list)

  one_take : take h one ≡ left
  unfolding one
  one_take = take_at left (drop h list) h left_length

  one_drop : drop h one ≡ drop h list
  unfolding one
  one_drop = drop_at left (drop h list) h left_length

  right_is : right ≡ arranged before (drop h list)
  unfolding one
  right_is =
      r ∙ ap (λ x. arranged before (take (n - h) x)) one_drop
      ∙ ap (arranged before) (take_all (n - h) (drop h list) (omega (arith, length-drop h list, same_length)))

  two_is : put_mid h (n - h) one right ≡ left ++ right
  unfolding one
  two_is =
      ap (λ x. x ++ (right ++ drop (n - h) (drop h one))) one_take
      ∙ ap (λ x. left ++ (right ++ drop (n - h) x)) one_drop
      ∙ ap (λ x. left ++ (right ++ x)) (drop_of_length-le (drop h list) {i = n - h} (omega (arith, length-drop h list, same_length)))
      ∙ ap (λ x. left ++ x) (append-nil right)

  pub arranged_whole : out ≡ arranged before list
  unfolding one
  arranged_whole =
      w ∙ ap (λ x. merge before (take h x) (drop h x)) two_is
      ∙ ap (λ x. merge before x (drop h (left ++ right))) (take_at left right h left_length)
      ∙ ap (merge before left) (drop_at left right h left_length)
      ∙ ap (λ x. merge before x right) l
      ∙ ap (merge before (arranged before (take h list))) right_is
      ∙ halves before o (take h list) (drop h list)
      ∙ ap (arranged before) (take-append-drop h list)
