-- A row of places that hold zeros: its first eight and the rest are filled one after the other, and few rows need the rest.
use Rattle.std.proofs.Common.{◌≡◌, ℕ, ◌+◌, ◌-◌, ◌≤◌, List, [], ◌++◌, length, take, drop, sym, ap, ◌∙◌, append-nil, arith, length-append, take-append-drop, drop_of_length-le, take_all, take_at, drop_at, drop-drop}
use borrow.Rule.Slice.PartMut.{put_mid}
use lib.Seq.{paste}
use Rattle.token.specs.Padded.{zeros}
use Rattle.token.proofs.PaddedLists.{drop_zeros}
use Rattle.sign.specs.Inner.{Counting}

-- what fills an array is all of it
pub paste_whole : (n : ℕ) (d s : List ℕ) → length d ≡ n → length s ≡ n → paste d 0 s n ≡ s
paste_whole n d s p q = (λ j. take_all n s (omega arith) j ++ drop_of_length-le d {i = 0 + n} (omega arith) j) ∙ append-nil s

-- the rest is written after the first eight
pub both_written : (front old last : List ℕ) (k : ℕ) → length front ≡ 8 → length last ≡ length old → k ≡ length (front ++ old) - 8
    → put_mid 8 k (front ++ old) last ≡ front ++ last
both_written front old last k p q e =
    let n : k ≡ length old = omega (arith, length-append front old) in
    let none : drop k (drop 8 (front ++ old)) ≡ [] = ap (drop k) (drop_at front old 8 p) ∙ drop_of_length-le old {i = k} (omega arith) in
    (λ i. take_at front old 8 p i ++ (last ++ none i)) ∙ ap (λ l. front ++ l) (append-nil last)

-- numbers that were copied, eight and the rest
module _ (old from : List ℕ) (n : ℕ) (clear : old ≡ zeros (length from)) (counting : Counting n from) (least : 8 ≤ length from) where
  pub counted_many : (front last : List ℕ) → front ≡ take 8 from → last ≡ drop 8 from → front ++ last ≡ from
  counted_many front last p q = (λ i. p i ++ q i) ∙ take-append-drop 8 from

  pub counted_few : n ≤ 8 → (front : List ℕ) → front ≡ take 8 from → front ++ drop 8 old ≡ from
  counted_few h front p =
      let r : n + (8 - n) ≡ 8 = omega arith in
      let s : length from ≡ 8 + (length from - 8) = omega arith in
      let z : length from - n ≡ (8 - n) + (length from - 8) = omega arith in
      let still : drop 8 old ≡ zeros (length from - 8) = ap (drop 8) (clear ∙ ap zeros s) ∙ drop_zeros 8 (length from - 8) in
      let none : drop 8 from ≡ zeros (length from - 8) =
      ap (λ k. drop k from) (sym r) ∙ sym (drop-drop (8 - n) n from) ∙ ap (drop (8 - n)) (counting.rest ∙ ap zeros z) ∙ drop_zeros (8 - n) (length from - 8) in
      counted_many front (drop 8 old) p (still ∙ sym none)
