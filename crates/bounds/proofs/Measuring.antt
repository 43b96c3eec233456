-- The refusals of sizes, case by case, and the search for a symbol without size.
use Prim.Native.Nat.{ℕ, zero, suc, ◌+◌, ◌≤◌, ◌<◌}
use mathlib.Core.Path.{◌≡◌, refl, sym, ap, ◌∙◌}
use mathlib.Core.Bool.{Bool, true, false, not, cond}
use mathlib.Core.List.{List, [], ◌∷◌, map}
use native.Mathlib.Omega.{arith}
use lib.Dec.{eqb, ltb, lit<}
use lib.ListN.{length, take}
use borrow.Author.Tests.{eq-eqb, ne_eqb, eqb-true, lt-ltb, le-ltb, ltb-true}
use Rattle.std.specs.Prelude.{Option, Some, None, position}
use Rattle.std.specs.List.{position_from, All as AllItems}
use Rattle.std.proofs.lemmas.Iterator.Adapters.{position_from-zero}
use Rattle.format.specs.Format.{choose, All}
use Rattle.format.specs.Numeral.{Range}
use Rattle.format.proofs.Lists.{all_map, all_weaker}
use Rattle.charset.specs.Tokens.{last_code, last_writing}
use Rattle.grammar.specs.declared.Symbols.{Symbols}
use Rattle.grammar.specs.Sign.{Spatial, ValidSymbol}
use Rattle.token.specs.Refusal.{sizes_length, no_symbols, symbol_unsized}
use Rattle.token.specs.Result.{refusal, done}
use Rattle.token.proofs.Checks.{check_done, Counted, done_counted, check_counted}
use Rattle.writer.specs.Arrays.{upto, symbol_at}
use Rattle.writer.proofs.Upto.{upto_length, upto_take, map_upto}
use Rattle.bounds.specs.declared.groups.Groups.{Groups}
use Rattle.bounds.specs.Boxes.{groups_of}
use Rattle.bounds.specs.Sizes.{has_size, first_unsized, unsized_symbol, measured}

-- the codes of the first n symbols
module _ (symbols : Symbols) (n : ℕ) (most : n ≤ length symbols.codes) where
  codes_are : map (λ s. s.code) (upto (symbol_at symbols) n) ≡ take n symbols.codes
  codes_are = map_upto (λ s. s.code) (symbol_at symbols) n ∙ upto_take symbols.codes n most

  pub codes_in_range : All ValidSymbol (upto (symbol_at symbols) n) → AllItems (Range 1 (last_code last_writing)) (take n symbols.codes)
  codes_in_range ok =
      let l = upto (symbol_at symbols) n in
      let each = all_map (Range 1 (last_code last_writing)) (λ s. s.code) l (all_weaker ValidSymbol (λ s. Range 1 (last_code last_writing) s.code) (λ s k. k.0) l ok) in
      go (take n symbols.codes) (rw codes_are at each)
    where
      go : (l : List ℕ) → All (Range 1 (last_code last_writing)) l → AllItems (Range 1 (last_code last_writing)) l
      go [] ok k d h = absurd (omega arith)
      go (code ∷ l) ok zero d h = ok.0
      go (code ∷ l) ok (suc k) d h = go l ok.1 k d (omega arith)

-- the place of the first code without size, counted from 1, and 0 where each has one
module _ (sizes : List ℕ) where
  abbrev pub is_unsized : ℕ → Bool
  is_unsized code = not (has_size sizes code)

  abbrev pub counted : Option ℕ → ℕ
  counted None = 0
  counted (Some i) = i + 1

  unsized_from : (i : ℕ) (l : List ℕ) → first_unsized sizes (i + 1) l ≡ counted (position_from is_unsized i l)
  unfolding first_unsized
  unsized_from i [] = refl
  unsized_from i (code ∷ l) = go (has_size sizes code) (unsized_from (i + 1) l)
    where
      go : (t : Bool) → first_unsized sizes (i + 1 + 1) l ≡ counted (position_from is_unsized (i + 1) l)
          → choose t (first_unsized sizes (i + 1 + 1) l) (i + 1) ≡ counted (cond (not t) (Some i) (position_from is_unsized (i + 1) l))
      go true e = e
      go false e = refl

  unsized_place : (l : List ℕ) → first_unsized sizes 1 l ≡ counted (position is_unsized l)
  unsized_place l = unsized_from 0 l ∙ ap counted (sym (position_from-zero is_unsized l))

-- a measuring that is done
pub record Measures (sizes : List ℕ) (l : List Spatial) (g : Groups) : Type 0 where
  pub long : length sizes ≡ 125184
  pub some : 0 < length l
  pub sized : unsized_symbol sizes l ≡ 0
  pub groups : groups_of sizes l ≡ g

pub measures : (sizes : List ℕ) (l : List Spatial) (g : Groups) → measured sizes l ≡ done g → Measures sizes l g
unfolding measured
measures sizes l g e =
    let a = check_done (eqb (length sizes) 125184) sizes_length 0 _ e in
    let b = check_done (ltb 0 (length l)) no_symbols 0 _ a.1 in
    let c = check_done (eqb (unsized_symbol sizes l) 0) symbol_unsized _ _ b.1 in
    record { long = eqb-true (length sizes) 125184 a.0; some = ltb-true 0 (length l) b.0; sized = eqb-true (unsized_symbol sizes l) 0 c.0; groups = same c.1 }
  where
    same : {g h : Groups} → done g ≡ done h → g ≡ h
    same e = cc

pub measured_fine : (sizes : List ℕ) (l : List Spatial) → length sizes ≡ 125184 → 0 < length l → unsized_symbol sizes l ≡ 0 → measured sizes l ≡ done (groups_of sizes l)
unfolding measured
measured_fine sizes l h k e = rw (eq-eqb (length sizes) 125184 h, lt-ltb 0 (length l) k, eq-eqb (unsized_symbol sizes l) 0 e)

pub measured_counted : (sizes : List ℕ) (l : List Spatial) → Counted (measured sizes l)
unfolding measured
measured_counted sizes l =
    check_counted (eqb (length sizes) 125184) sizes_length 0 _ (lit< tt)
    (check_counted (ltb 0 (length l)) no_symbols 0 _ (lit< tt)
    (check_counted (eqb (unsized_symbol sizes l) 0) symbol_unsized _ _ (lit< tt) (done_counted (groups_of sizes l))))

-- of the first n symbols, where f is the place of the first code without size
module _ (sizes : List ℕ) (symbols : Symbols) (n : ℕ) where
  abbrev l : List Spatial
  l = upto (symbol_at symbols) n

  pub measured_7 : (length sizes ≡ 125184 → ⊥) → measured sizes (upto (symbol_at symbols) n) ≡ refusal sizes_length 0
  unfolding measured
  measured_7 h = rw (ne_eqb (length sizes) 125184 h)

  pub measured_9 : length sizes ≡ 125184 → n ≡ 0 → measured sizes (upto (symbol_at symbols) n) ≡ refusal no_symbols 0
  unfolding measured
  measured_9 h e = rw (eq-eqb (length sizes) 125184 h, le-ltb 0 (length l) (omega (arith, upto_length (symbol_at symbols) n, e)))

  module _ (h : length sizes ≡ 125184) (e : n ≡ 0 → ⊥) (most : n ≤ length symbols.codes) (f : Option ℕ) (is : f ≡ position (is_unsized sizes) (take n symbols.codes)) where
    first_is : unsized_symbol sizes l ≡ counted sizes f
    first_is = ap (first_unsized sizes 1) (codes_are symbols n most) ∙ unsized_place sizes (take n symbols.codes) ∙ ap (counted sizes) (sym is)

    some : 0 < length l
    some = omega (arith, upto_length (symbol_at symbols) n, e)

    pub measured_8 : (i : ℕ) → f ≡ Some i → measured sizes (upto (symbol_at symbols) n) ≡ refusal symbol_unsized (i + 1)
    unfolding measured
    measured_8 i k =
        let u : unsized_symbol sizes l ≡ i + 1 = first_is ∙ ap (counted sizes) k in
        rw (eq-eqb (length sizes) 125184 h, lt-ltb 0 (length l) some, u, ne_eqb (i + 1) 0 (λ z. omega arith))

    pub measured_done : f ≡ None → measured sizes (upto (symbol_at symbols) n) ≡ done (groups_of sizes (upto (symbol_at symbols) n))
    measured_done k = measured_fine sizes l h some (first_is ∙ ap (counted sizes) k)
