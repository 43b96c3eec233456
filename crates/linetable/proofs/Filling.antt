-- Filling the table, line by line.
use Prim.Native.Nat.{ℕ, zero, suc, ◌+◌, ◌-◌, ◌*◌, ◌/◌, ◌%◌, ◌≤◌, ◌<◌, min}
use mathlib.Core.Path.{◌≡◌, refl, sym, ap, ◌∙◌}
use mathlib.Core.List.{List}
use mathlib.Core.Bool.{Bool, true, false}
use native.Mathlib.Omega.{arith}
use lib.Dec.{leb, ltb, eqb}
use lib.ListN.{length, get_or, drop, set, replicate, length-set, length-replicate}
use lib.Seq.{get_or-set_same, get_or-set_other}
use borrow.Author.Tests.{eqb-true, eqb-false, leb-true, leb-false, ltb-true, ltb-false}
use Rattle.format.proofs.Lists.{zeros_at}
use Rattle.lines.specs.Lines.{lines, line_start, first_line}
use Rattle.lines.proofs.Starts.{Line, start_first, start_within, line_at}
use Rattle.linetable.specs.Table.{first_in, first_of, start_in, Clear, Table}
use Rattle.linetable.proofs.Walking.{on_start, start_near, start_far}

-- fresh arrays
pub clear_fresh : Clear (replicate 2048 0) (replicate 65536 0)
clear_fresh = record {
  blocks = length-replicate {A = ℕ} 2048 0;
  places = length-replicate {A = ℕ} 65536 0;
  no_bases = zeros_at 2048;
  no_offsets = zeros_at 65536;
}

-- Lines 1 to e have their places, base is where the block of line e starts, and line e + 1 starts at `at`.
pub record Filling (dict : List ℕ) (n : ℕ) (bases offsets : List ℕ) (base at e : ℕ) : Type 0 where
  pub most : e ≤ n
  pub here : at ≡ line_start dict (e + 1)
  pub block : base ≡ line_start dict (first_of e)
  pub order : base ≤ at
  pub blocks : length bases ≡ 2048
  pub places : length offsets ≡ 65536
  pub based : (b : ℕ) → b * 32 ≤ e → get_or bases b 0 ≡ line_start dict (first_in b)
  pub no_bases : (b : ℕ) → e < b * 32 → get_or bases b 0 ≡ 0
  pub near : (k : ℕ) → 1 ≤ k → k ≤ e → get_or offsets k 0 < 65535 → line_start dict (first_of k) + get_or offsets k 0 ≡ line_start dict k
  pub unused : get_or offsets 0 0 ≡ 0
  pub beyond : (k : ℕ) → e < k → get_or offsets k 0 ≡ 0

-- The block of line e starts there, and line e at `at`.
pub record Opened (dict : List ℕ) (base at e : ℕ) : Type 0 where
  pub block : base ≡ line_start dict (first_of e)
  pub order : base ≤ at

first_zero : (b : ℕ) → b * 32 ≤ 0 → 1 ≡ first_in b
first_zero b h = omega arith

first_new : (e : ℕ) → 1 ≤ e → e % 32 ≡ 0 → e ≡ first_of e
first_new e l h = omega arith

first_same : (e : ℕ) → ((e + 1) % 32 ≡ 0 → ⊥) → first_of e ≡ first_of (e + 1)
first_same e h =
    let s : e / 32 ≡ (e + 1) / 32 = omega arith in
    rw s

pub filling_start : (dict : List ℕ) (n : ℕ) (bases offsets : List ℕ) → Clear bases offsets → Filling dict n bases offsets 0 0 0
filling_start dict n bases offsets c = record {
  most = omega arith;
  here = start_first dict;
  block = start_first dict ∙ ap (line_start dict) (first_zero (0 / 32) (omega arith));
  order = omega arith;
  blocks = c.blocks;
  places = c.places;
  based = λ b h. c.no_bases b ∙ start_first dict ∙ ap (line_start dict) (first_zero b h);
  no_bases = λ b h. c.no_bases b;
  near = λ k a b h. absurd (omega arith);
  unused = c.no_offsets 0;
  beyond = λ k h. c.no_offsets k;
}

module _ {dict : List ℕ} {n : ℕ} {bases offsets : List ℕ} {base at e : ℕ} (c : Filling dict n bases offsets base at e) where
  pub opened_new : (e + 1) % 32 ≡ 0 → Opened dict at at (e + 1)
  opened_new h = record { block = c.here ∙ ap (line_start dict) (first_new (e + 1) (omega arith) h); order = omega arith }

  pub opened_same : ((e + 1) % 32 ≡ 0 → ⊥) → Opened dict base at (e + 1)
  opened_same h = record { block = c.block ∙ ap (line_start dict) (first_same e h); order = c.order }

  module _ (z : n ≡ length (lines dict)) (h : e < n) where
    pub filling_within : at < length dict
    filling_within = start_within dict (e + 1) at (omega arith) (omega arith) c.here

    line : (end : ℕ) → end ≡ at + length (first_line (drop at dict)) → Line dict (e + 1) at end
    line end q = line_at dict (e + 1) at (omega arith) (omega arith) c.here end q

    pub filling_high : (end : ℕ) → end ≡ at + length (first_line (drop at dict)) → end < length dict
    filling_high end q = (line end q).high

    module _ (few : n ≤ 65535) (base' : ℕ) (o : Opened dict base' at (e + 1)) where
      based-more : (b : ℕ) → b * 32 ≤ e + 1 → (t : Bool) → eqb b ((e + 1) / 32) ≡ t
          → get_or (set bases ((e + 1) / 32) base') b 0 ≡ line_start dict (first_in b)
      based-more b l true q =
          let s = eqb-true b ((e + 1) / 32) q in
          ap (λ x. get_or (set bases ((e + 1) / 32) base') x 0) s ∙ get_or-set_same bases ((e + 1) / 32) base' 0 (omega (arith, c.blocks)) ∙ o.block
          ∙ ap (λ x. line_start dict (first_in x)) (sym s)
      based-more b l false q =
          let d = eqb-false b ((e + 1) / 32) q in
          get_or-set_other bases ((e + 1) / 32) b base' 0 d ∙ c.based b (omega arith)

      module _ (offset : ℕ) (is : offset ≡ min 65535 (at - base')) where
        near-more : (k : ℕ) → 1 ≤ k → k ≤ e + 1 → (t : Bool) → eqb k (e + 1) ≡ t
            → get_or (set offsets (e + 1) offset) k 0 < 65535 → line_start dict (first_of k) + get_or (set offsets (e + 1) offset) k 0 ≡ line_start dict k
        near-more k j l true q =
            let s = eqb-true k (e + 1) q in
            let v = get_or-set_same offsets (e + 1) offset 0 (omega (arith, c.places)) in
            rw (s, v) (λ m. omega (arith, o.block, o.order, c.here))
        near-more k j l false q =
            let d = eqb-false k (e + 1) q in
            rw (get_or-set_other offsets (e + 1) k offset 0 d) (λ m. c.near k j (omega arith) m)

        pub filling-more : (end : ℕ) → end ≡ at + length (first_line (drop at dict))
            → Filling dict n (set bases ((e + 1) / 32) base') (set offsets (e + 1) offset) base' (end + 1) (e + 1)
        filling-more end q = record {
          most = omega arith;
          here = (line end q).next;
          block = o.block;
          order = omega (arith, o.order, (line end q).low);
          blocks = length-set bases ((e + 1) / 32) base' ∙ c.blocks;
          places = length-set offsets (e + 1) offset ∙ c.places;
          based = λ b l. based-more b l (eqb b ((e + 1) / 32)) refl;
          no_bases = λ b l. get_or-set_other bases ((e + 1) / 32) b base' 0 (λ s. omega arith) ∙ c.no_bases b (omega arith);
          near = λ k j l. near-more k j l (eqb k (e + 1)) refl;
          unused = get_or-set_other offsets (e + 1) 0 offset 0 (λ s. omega arith) ∙ c.unused;
          beyond = λ k l. get_or-set_other offsets (e + 1) k offset 0 (λ s. omega arith) ∙ c.beyond k (omega arith);
        }

  module _ (z : n ≡ length (lines dict)) (h : n ≤ e) where
    base-within : (b : ℕ) (t : Bool) → leb (b * 32) n ≡ t → get_or bases b 0 ≤ length dict
    base-within b false q = omega (arith, c.no_bases b (omega (arith, leb-false (b * 32) n q, c.most)))
    base-within zero true q = omega (arith, c.based 0 (omega arith), start_first dict)
    base-within (suc b) true q =
        let l = leb-true (suc b * 32) n q in
        let s = c.based (suc b) (omega arith) in
        omega (arith, start_within dict (first_in (suc b)) (get_or bases (suc b) 0) (omega arith) (omega arith) s)

    found : (k : ℕ) → 1 ≤ k → k ≤ length (lines dict) → (t : Bool) → ltb (get_or offsets k 0) 65535 ≡ t → start_in dict bases offsets k ≡ line_start dict k
    found k j l true q =
        let b = c.based (k / 32) (omega arith) in
        let m = ltb-true (get_or offsets k 0) 65535 q in
        sym (start_near dict (get_or bases (k / 32) 0) (get_or offsets k 0) k m) ∙ ap (λ x. x + get_or offsets k 0) b ∙ c.near k j (omega arith) m
    found k j l false q =
        let b = c.based (k / 32) (omega arith) in
        let m = ltb-false (get_or offsets k 0) 65535 q in
        let s : first_of k + (k - first_of k) ≡ k = omega arith in
        sym (start_far dict (get_or bases (k / 32) 0) (get_or offsets k 0) k m)
        ∙ on_start dict (k - first_of k) (first_of k) (get_or bases (k / 32) 0) (omega arith) (omega arith) b ∙ ap (line_start dict) s

    -- a place that no line has
    empty-within : (k : ℕ) → get_or offsets k 0 ≡ 0 → start_in dict bases offsets k ≤ length dict
    empty-within k s =
        let near = start_near dict (get_or bases (k / 32) 0) (get_or offsets k 0) k (omega arith) in
        omega (arith, base-within (k / 32) (leb (k / 32 * 32) n) refl)

    any-within : (k : ℕ) (t : Bool) → leb k n ≡ t → start_in dict bases offsets k ≤ length dict
    any-within zero t q = empty-within 0 c.unused
    any-within (suc k) false q = empty-within (suc k) (c.beyond (suc k) (omega (arith, leb-false (suc k) n q, c.most)))
    any-within (suc k) true q =
        let l = leb-true (suc k) n q in
        let s = found (suc k) (omega arith) (omega arith) (ltb (get_or offsets (suc k) 0) 65535) refl in
        omega (arith, start_within dict (suc k) (start_in dict bases offsets (suc k)) (omega arith) (omega arith) s)

    pub filling_end : Table dict bases offsets
    filling_end = record {
      safe = record {
        blocks = c.blocks;
        places = c.places;
        based = λ b. base-within b (leb (b * 32) n) refl;
        within = λ k. any-within k (leb k n) refl;
      };
      is = λ k j l. found k j l (ltb (get_or offsets k 0) 65535) refl;
    }
