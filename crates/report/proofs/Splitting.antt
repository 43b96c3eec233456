-- The query and the dictionary as parts of the input.
use Prim.Native.Nat.{ℕ, suc, ◌+◌, ◌-◌, ◌≤◌, ◌<◌}
use mathlib.Core.Path.{◌≡◌, refl, sym, ap, ◌∙◌}
use mathlib.Core.List.{List, [], ◌∷◌, ◌++◌}
use mathlib.Core.Bool.{Bool, true, false}
use native.Mathlib.Numerals.{add-one}
use native.Mathlib.Omega.{arith}
use lib.Dec.{eqb}
use lib.ListN.{length, take, drop, length-drop, drop_of_length-le}
use lib.Seq.{take_all, length-take-le}
use Rattle.format.specs.Format.{choose}
use Rattle.lines.specs.Lines.{first_line}
use Rattle.token.specs.Wrote.{Wrote}
use Rattle.writer.proofs.Writes.{wrote_all}
use Rattle.report.specs.Report.{query_in, dictionary_in, Part}

query_part : (x : List ℕ) → (length (first_line x) ≤ length x) × (take (length (first_line x)) x ≡ first_line x)
unfolding first_line
query_part [] = (omega arith, refl)
query_part (b ∷ x) = go (eqb b 10) (query_part x)
  where
    go : (t : Bool) → (length (first_line x) ≤ length x) × (take (length (first_line x)) x ≡ first_line x)
        → (length (choose t [] (b ∷ first_line x)) ≤ suc (length x)) × (take (length (choose t [] (b ∷ first_line x))) (b ∷ x) ≡ choose t [] (b ∷ first_line x))
    go true p = (omega arith, refl)
    go false p = (omega arith, ap (λ l. b ∷ l) p.1)

to_end : (x : List ℕ) (a : ℕ) → take (length x - a) (drop a x) ≡ drop a x
to_end x a = take_all (length x - a) (drop a x) (omega (arith, length-drop a x))

pub record DictionaryAt (x : List ℕ) (start : ℕ) : Type 0 where
  pub within : start ≤ length x
  pub dictionary : take (length x - start) (drop start x) ≡ dictionary_in x

module _ (x : List ℕ) (e : ℕ) (h : e ≡ 0 + length (first_line x)) where
  end_is : e ≡ length (first_line x)
  end_is = omega arith

  pub query_is : (e ≡ length (take e x)) × (take e x ≡ query_in x)
  query_is = (sym (length-take-le e x (omega (arith, (query_part x).0))), rw end_is (query_part x).1)

  -- where the dictionary starts
  pub line_ended : e < length x → DictionaryAt x (e + 1)
  line_ended l = record { within = omega arith; dictionary = to_end x (e + 1) ∙ rw (add-one, end_is) }

  pub no_dictionary : length x ≤ e → DictionaryAt x e
  no_dictionary l = record {
    within = omega (arith, (query_part x).0);
    dictionary = to_end x e ∙ drop_of_length-le x l ∙ sym (drop_of_length-le x {i = suc (length (first_line x))} (omega arith));
  }

-- a text, once it is written
pub answered : {text o p : List ℕ} {r : ℕ} → Wrote o p 0 r text → record { room : Part r p; answer : r ≡ length text; memory : p ≡ text ++ drop (length text) o }
answered {p = p} {r} w =
    let room : r ≤ length p = omega arith in
    let all = wrote_all w in
    record { room = (room, sym (length-take-le r p room)); answer = all.0; memory = all.1 }
