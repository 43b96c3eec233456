-- A loop that puts offsets into an array, each so many bytes after the one before, and zeros after them.
use Rattle.std.proofs.Common.{◌≡◌, ℕ, zero, suc, ◌+◌, ◌-◌, ◌*◌, ◌<◌, ◌≤◌, Bool, true, false, ltb, List, [], ◌∷◌, ◌++◌, length, get_or, drop, set, sym, refl, ap, ◌∙◌, suc-mul, zero-add, add-one, arith, length-set, ltb-false, ltb-true, take, length-take-le, length-drop}
use borrow.Rule.Slice.PartMut.{put_mid}
use Rattle.std.proofs.lemmas.Slice.{put_mid-paste}
use lib.ListN.{get_or-eq_default}
use lib.Seq.{paste, paste-zero, paste-suc}
use Rattle.format.specs.Format.{choose}
use Rattle.grammar.specs.Offsets.{steps}
use Rattle.grammar.proofs.Offsets.{steps_length, steps_at}
use Rattle.token.specs.Padded.{padded, zeros}
use Rattle.token.proofs.PaddedLists.{padded_length, padded_none, padded_at, drop_zeros}
use Rattle.sign.proofs.Eights.{paste_whole}

-- what stands in a place
step_at : (first size n i : ℕ) → choose (ltb i n) (first + i * size) 0 ≡ get_or (steps first size n) i 0
step_at first size n i = go (ltb i n) refl
  where
    go : (t : Bool) → ltb i n ≡ t → choose t (first + i * size) 0 ≡ get_or (steps first size n) i 0
    go true e = sym (steps_at first size n i (ltb-true i n e))
    go false e = sym (get_or-eq_default (steps first size n) 0 {n = i} (let h = ltb-false i n e in let k = steps_length first size n in omega arith))

module _ (old : List ℕ) (first size n : ℕ) where
  abbrev all : List ℕ
  all = padded (length old) (steps first size n)

  -- the first i places are put
  pub record Stepping (new : List ℕ) (i : ℕ) : Type 0 where
    pub size_kept : length new ≡ length old
    pub is : new ≡ paste old 0 all i

  pub stepping_none : Stepping old 0
  stepping_none = record { size_kept = refl; is = paste-zero old 0 all }

  module _ (new : List ℕ) (i : ℕ) (v : Stepping new i) where
    pub stepping_on : i < length old → (value : ℕ) → value ≡ choose (ltb i n) (first + i * size) 0 → Stepping (set new i value) (i + 1)
    stepping_on h value e = record {
      size_kept = length-set new i value ∙ v.size_kept;
      is = (λ j. set (v.is j) i ((e ∙ step_at first size n i ∙ sym (padded_at (length old) (steps first size n) i h)) j))
          ∙ ap (λ k. set (paste old 0 all i) k (get_or all i 0)) (sym (zero-add i))
          ∙ paste-suc old 0 all i 0 (omega arith) (let k = padded_length (length old) (steps first size n) in omega arith)
          ∙ ap (paste old 0 all) (sym (add-one i));
    }

    pub stepping_all : i ≡ length old → new ≡ all
    stepping_all e = v.is ∙ ap (paste old 0 all) e ∙ paste_whole (length old) old all refl (padded_length (length old) (steps first size n))

-- steps in two parts of an array
padded_steps : (a b first size n : ℕ) → padded a (steps first size n) ++ padded b (steps (first + a * size) size (n - a)) ≡ padded (a + b) (steps first size n)
unfolding padded steps
padded_steps zero b first size n =
    let k : 0 + b ≡ b = omega arith in
    let f : first + 0 * size ≡ first = omega arith in
    let m : n - 0 ≡ n = omega arith in
    λ i. padded (sym k i) (steps (f i) size (m i))
padded_steps (suc a) b first size zero =
    let k : suc a + b ≡ suc (a + b) = omega arith in
    let none : 0 - suc a ≡ 0 = omega arith in
    let less : 0 - a ≡ 0 = omega arith in
    ap (λ l. 0 ∷ l) ((λ i. padded a [] ++ padded b (steps (first + suc a * size) size (none i))) ∙ (λ i. padded a [] ++ padded b (steps (first + a * size) size (sym less i))) ∙ padded_steps a b first size zero)
    ∙ ap (λ n. padded n []) (sym k)
padded_steps (suc a) b first size (suc n) =
    let k : suc a + b ≡ suc (a + b) = omega arith in
    let f : first + suc a * size ≡ first + size + a * size = omega (arith, suc-mul a size) in
    let m : suc n - suc a ≡ n - a = omega arith in
    ap (λ l. first ∷ l) ((λ i. padded a (steps (first + size) size n) ++ padded b (steps (f i) size (m i))) ∙ padded_steps a b (first + size) size n)
    ∙ ap (λ j. padded j (steps first size (suc n))) (sym k)

-- offsets, eight and the rest
module _ (old : List ℕ) (first size n : ℕ) (clear : old ≡ zeros (length old)) (least : 8 ≤ length old) where
  abbrev rest : List ℕ
  rest = padded (length old - 8) (steps (first + 8 * size) size (n - 8))

  parts : padded 8 (steps first size n) ++ rest ≡ padded (length old) (steps first size n)
  parts =
      let r : 8 + (length old - 8) ≡ length old = omega arith in
      padded_steps 8 (length old - 8) first size n ∙ ap (λ k. padded k (steps first size n)) r

  pub offsets_many : (front last : List ℕ) → front ≡ padded 8 (steps first size n) → last ≡ rest → front ++ last ≡ padded (length old) (steps first size n)
  offsets_many front last p q = (λ i. p i ++ q i) ∙ parts

  pub offsets_few : n ≤ 8 → (front : List ℕ) → front ≡ padded 8 (steps first size n) → front ++ drop 8 old ≡ padded (length old) (steps first size n)
  unfolding steps
  offsets_few h front p =
      let z : n - 8 ≡ 0 = omega arith in
      let none : rest ≡ zeros (length old - 8) = ap (λ k. padded (length old - 8) (steps (first + 8 * size) size k)) z ∙ sym (padded_none (length old - 8)) in
      let r : length old ≡ 8 + (length old - 8) = omega arith in
      let still : drop 8 old ≡ zeros (length old - 8) = ap (drop 8) (clear ∙ ap zeros r) ∙ drop_zeros 8 (length old - 8) in
      offsets_many front (drop 8 old) p (still ∙ sym none)

-- offsets put into a part of an array
pub offsets_put : (to : List ℕ) (at room first size n : ℕ) (part : List ℕ) → at + room ≤ length to → part ≡ padded (length (take (at + room - at) (drop at to))) (steps first size n)
    → put_mid at (at + room - at) to part ≡ paste to at (padded room (steps first size n)) room
offsets_put to at room first size n part h e =
    let k : at + room - at ≡ room = omega arith in
    let l : length (take (at + room - at) (drop at to)) ≡ room = length-take-le (at + room - at) (drop at to) (omega (arith, length-drop at to)) ∙ k in
    put_mid-paste at (at + room - at) to part (padded room (steps first size n)) room (e ∙ ap (λ m. padded m (steps first size n)) l) (sym k)
    (sym (padded_length room (steps first size n)))
