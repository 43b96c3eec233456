-- What the verdict on a line says, and a query without conditions.
use Prim.Native.Nat.{ℕ}
use mathlib.Core.Path.{◌≡◌, refl, sym, ap, ◌∙◌}
use mathlib.Core.List.{List}
use mathlib.Core.Bool.{Bool, true, false, not, ◌&&◌, and-eq-true_iff}
use borrow.Author.Tests.{eqb-true, not-true}
use lib.Dec.{eqb}
use Rattle.std.specs.Prelude.{Result as Answer, Ok, Err}
use Rattle.format.specs.Format.{choose}
use Rattle.charset.specs.declared.Charset.{Charset}
use Rattle.grammar.specs.Sign.{Meaning}
use Rattle.token.specs.declared.refusal.Refusal.{Refusal}
use Rattle.token.specs.declared.refusal.Refusal.TheVariants.{LineWrong}
use Rattle.token.specs.Result.{Result, refusal, done, outcome}
use Rattle.writer.specs.Arrays.{upto}
use Rattle.reader.specs.Signs.{sign_of}
use Rattle.matching.specs.Meets.{judged, is_met}
use Rattle.matching.specs.Inner.{word, prefix_words, judged_words, verdict_words, verdict_in_words}
use Rattle.matching.proofs.Rightness.{answered_met}
use Rattle.verdict.specs.Inner.{verdict_on_words, met_on_words}
use Rattle.lines.specs.Lines.{line_of}
use Rattle.list.specs.Bits.{bit_of}
use Rattle.entries.specs.Entries.{is_done, readable}
use Rattle.entries.specs.Judging.{meets_words, asks_nothing}
use Rattle.entries.specs.Finding.{line_verdict, listed_verdict}

-- whether it is listed
module _ (words : List ℕ) (set : Charset) (line listed : List ℕ) (i : ℕ) {b : Bool} (e : b ≡ bit_of listed i) where
  pub not_listed : b ≡ false → Ok false ≡ listed_verdict set words line listed i
  unfolding listed_verdict
  not_listed h = rw (← e, h)

  pub is_listed : b ≡ true → (q : Answer Bool Refusal) → outcome q ≡ met_on_words words (sign_of set line) → (r : Answer Bool Refusal)
      → ((x : Bool) → q ≡ Ok x → r ≡ Ok x) → ((d : Refusal) → q ≡ Err d → r ≡ Err (LineWrong i)) → r ≡ listed_verdict set words line listed i
  unfolding listed_verdict
  is_listed h q v r read refused = go q refl ∙ rw (← e, h) (ap (line_verdict i) v)
    where
      go : (a : Answer Bool Refusal) → q ≡ a → r ≡ line_verdict i (outcome q)
      go (Ok x) is = rw is (read x is)
      go (Err d) is = rw is (refused d is)

-- A VERDICT on the line of a listed entry is refused exactly where that is no sign
module _ (words : List ℕ) (set : Charset) (dict listed : List ℕ) (i : ℕ) {v : Answer Bool Refusal} (e : v ≡ listed_verdict set words (line_of dict i) listed i) where
  abbrev By : Bool → Result Meaning → Answer Bool Refusal
  By t r = choose t (line_verdict i (met_on_words words r)) (Ok false)

  pub listed_wrong : {x : Refusal} → v ≡ Err x → (x ≡ LineWrong i) × (choose (bit_of listed i) (readable set dict i) true ≡ false)
  unfolding listed_verdict
  listed_wrong {x} z = go (bit_of listed i) (sign_of set (line_of dict i)) (sym z ∙ e)
    where
      go : (t : Bool) (r : Result Meaning) → Err x ≡ By t r → (x ≡ LineWrong i) × (choose t (is_done r) true ≡ false)
      go true (refusal number place) k = (cc, refl)
      go true (done m) k = absurd (cc)
      go false r k = absurd (cc)

  module _ {b : Bool} (z : v ≡ Ok b) where
    pub listed_good : choose (bit_of listed i) (readable set dict i) true ≡ true
    unfolding listed_verdict
    listed_good = go (bit_of listed i) (sign_of set (line_of dict i)) (sym z ∙ e)
      where
        go : (t : Bool) (r : Result Meaning) → Ok b ≡ By t r → choose t (is_done r) true ≡ true
        go true (refusal number place) k = absurd (cc)
        go true (done m) k = refl
        go false r k = refl

    pub listed_met : b ≡ (bit_of listed i && meets_words set dict words i)
    unfolding verdict_on_words listed_verdict
    listed_met = go (bit_of listed i) (sign_of set (line_of dict i)) (sym z ∙ e)
      where
        go : (t : Bool) (r : Result Meaning) → Ok b ≡ By t r → b ≡ (t && (verdict_on_words words r).met)
        go true (refusal number place) k = absurd (cc)
        go true (done m) k = let q : b ≡ is_met (verdict_in_words words m) = cc in q ∙ sym (answered_met (verdict_in_words words m))
        go false r k = cc

-- A QUERY WITHOUT CONDITIONS
module _ (words : List ℕ) where
  -- every sign meets it
  pub nothing_met : asks_nothing words ≡ true → (r : Result Meaning) → (verdict_on_words words r).met ≡ is_done r
  unfolding asks_nothing verdict_on_words verdict_words prefix_words judged_words judged upto
  nothing_met h (refusal number place) = refl
  nothing_met h (done m) =
      let a = (and-eq-true_iff (not (eqb (word words 0) 1)) (eqb (word words 1) 0 && eqb (word words 2) 0)).0 h in
      let b = (and-eq-true_iff (eqb (word words 1) 0) (eqb (word words 2) 0)).0 a.1 in
      let k : eqb (word words 0) 1 ≡ false = not-true (eqb (word words 0) 1) a.0 in
      rw (k, eqb-true (word words 1) 0 b.0, eqb-true (word words 2) 0 b.1)
