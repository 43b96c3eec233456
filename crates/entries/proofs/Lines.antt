-- What the sign reader says of a line, and of all that are listed.
use Prim.Native.Nat.{ℕ, ◌+◌, ◌-◌, ◌/◌, ◌≤◌, ◌<◌}
use mathlib.Core.Path.{◌≡◌, refl, sym, ap, ◌∙◌}
use mathlib.Core.List.{List}
use mathlib.Core.Bool.{Bool, true, false, not, ◌&&◌, not-not}
use lib.ListN.{take, drop}
use native.Mathlib.Numerals.{add-one}
use borrow.Author.Tests.{ne_eqb}
use Rattle.std.specs.Prelude.{Option, None, Some}
use Rattle.format.specs.Format.{All}
use Rattle.charset.specs.declared.Charset.{Charset}
use Rattle.token.specs.Refusal.{line_wrong}
use Rattle.token.specs.Result.{Result, refusal}
use Rattle.reader.specs.Signs.{sign_of}
use Rattle.lines.proofs.Starts.{Line}
use Rattle.narrowing.specs.Narrowing.{distinct, listed, first_bad, some_entry, check_lines}
use Rattle.narrowing.proofs.Rising.{listed_valid, bad_agree}
use Rattle.format.proofs.Lists.{all_both, all_weaker}
use Rattle.narrowing.proofs.Distinct.{distinct_within, all_marked}
use Rattle.list.specs.Bits.{bit_of, Marks, first_passing}
use Rattle.list.proofs.Sets.{inside}
use Rattle.list.proofs.Marking.{passing_entry}
use Rattle.entries.specs.Entries.{is_done, readable, first_wrong}
use Rattle.entries.specs.Finding.{HasWrong}

-- line k, where it lies
pub line_read : (set : Charset) (d : List ℕ) {k a e : ℕ} → Line d k a e → {b : Bool} → b ≡ is_done (sign_of set (take (e - a) (drop a d))) → readable set d k ≡ b
line_read set d l q = sym (q ∙ ap (λ line. is_done (sign_of set line)) l.part)

-- a listed entry whose line is no sign
abbrev pub unread : Charset → List ℕ → List ℕ → ℕ → Bool
unread set d listed e = bit_of listed e && not (readable set d e)

module _ (set : Charset) (d listed : List ℕ) {k a e : ℕ} (l : Line d k a e) {h : Bool} (has : h ≡ bit_of listed k) where
  pub unread_unlisted : h ≡ false → unread set d listed k ≡ false
  unread_unlisted z = ap (λ t. t && not (readable set d k)) (sym has ∙ z)

  module _ (z : h ≡ true) {s : Bool} (is : s ≡ is_done (sign_of set (take (e - a) (drop a d)))) where
    unread_as : unread set d listed k ≡ not s
    unread_as = ap (λ t. t && not (readable set d k)) (sym has ∙ z) ∙ ap not (line_read set d l is)

    pub unread_sign : s ≡ true → unread set d listed k ≡ false
    unread_sign y = unread_as ∙ ap not y

    pub unread_wrong : s ≡ false → unread set d listed k ≡ true
    unread_wrong y = unread_as ∙ ap not y

-- THE FIRST WRONG LINE

module _ {A : Type 0} (test : ℕ → Bool) (entries : List ℕ) (r : Result A) where
  pub wrong_refused : {k : ℕ} → k ≡ first_bad test entries → (k ≡ 0 → ⊥) → refusal line_wrong k ≡ check_lines test entries r
  wrong_refused {k} e z = rw (← e, ne_eqb k 0 z) refl

  pub none_wrong : 0 ≡ first_bad test entries → r ≡ check_lines test entries r
  none_wrong e = rw (← e) refl

-- an entry that is the first wrong one, and none
pub some_wrong : (k n : ℕ) → k + 1 ≡ n → Some (k + 1) ≡ some_entry n
some_wrong k n e = rw (← e, add-one) refl

pub no_wrong : (n : ℕ) → 0 ≡ n → None ≡ some_entry n
no_wrong n e = rw (← e) refl

-- IN LIST ORDER: a set has the entries of a list, and another those of them whose line is no sign
module _ (list : List ℕ) (n lines : ℕ) (v : listed (distinct lines) list n ≡ true) where
  within : All (λ e. (0 < e) × (e ≤ lines)) (take n list)
  within = distinct_within lines (take n list) (listed_valid (distinct lines) list n v)

  pub listed_inside : {m : ℕ} → lines / 8 < m → All (λ e. e / 8 < m) (take n list)
  listed_inside h = inside lines (take n list) within h

  pub first_listed : (set : Charset) (dict : List ℕ) {marks before wrong : List ℕ} → Marks lines (take n list) marks → HasWrong set dict (bit_of marks) lines before wrong
      → {r : Option ℕ} → r ≡ first_passing (bit_of wrong) (take n list) → r ≡ some_entry (first_wrong set dict (take n list))
  first_listed set dict {marks} {before} {wrong} m w e =
      e ∙ passing_entry (bit_of wrong) (take n list) (all_weaker (λ e. (0 < e) × (e ≤ lines)) (λ e. 0 < e) (λ e h. h.0) (take n list) within)
      ∙ ap some_entry (bad_agree (λ e. not (bit_of wrong e)) (readable set dict) (take n list)
      (all_both (λ e. (0 < e) × (e ≤ lines)) (λ e. bit_of marks e ≡ true) (λ e. not (bit_of wrong e) ≡ readable set dict e)
      (λ e l t. ap not (w.holds.has e l.0 l.1 ∙ ap (λ b. b && not (readable set dict e)) t) ∙ not-not (readable set dict e))
      (take n list) within (all_marked (bit_of marks) lines (take n list) within m.is)))
