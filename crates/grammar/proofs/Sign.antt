-- The sign is lawful in both character sets, with one predicate for what can be said.
use Prim.Native.Nat.{ℕ, ◌+◌}
use mathlib.Core.List.{List, [], ◌∷◌, ◌++◌, append_assoc, map}
use mathlib.Core.Path.{◌≡◌, refl, sym, ap, subst, ◌∙◌}
use mathlib.Core.Option.{Option, none, some}
use native.Mathlib.Omega.{arith}
use Rattle.format.specs.Format.{Answer, other, Format, All, second, optional, many, Absent, FollowAll}
use Rattle.format.specs.Numeral.{Range}
use Rattle.format.proofs.Lawful.{Lawful}
use Rattle.format.proofs.Begun.{absent_other}
use Rattle.format.proofs.Sequence.{sequence_lawful}
pub use Rattle.format.proofs.Sequence.{sequence_other}
use Rattle.format.proofs.Parts.{Inverse, mapped_lawful, optional_lawful}
use Rattle.format.proofs.Many.{many_lawful}
use Rattle.format.proofs.Delimited.{Delimited, Fixed, sequence_fixed, solid}
use Rattle.charset.specs.declared.Charset.{Charset}
use Rattle.charset.specs.declared.Charset.TheVariants.{Fsw, Swu}
use Rattle.charset.specs.Tokens.{Tokens, tokens, fsw, last_writing, last_location, last_code}
use Rattle.charset.proofs.Sets.{LawfulTokens, lawful}
use Rattle.grammar.specs.Sign.{Spatial, Meaning, ValidSymbol, Valid, point, placed, prefix_symbol, prefix_symbols, prefix, lead, spatial, signbox, parts, Parts, to_spatial, of_spatial, to_prefix, of_prefix, to_meaning, of_meaning, sign_with, sign}

-- what may follow zero or more tokens: what may not begin one
pub all_follow : {A : Type 0} (w : ℕ) (f : Format A) → Delimited w f → (v : List A) (rest : List ℕ) → (many f).Valid v → Absent rest (f.read rest) → FollowAll f v rest
all_follow w f t [] rest ok p = p
all_follow w f t (a ∷ v) rest ok p = (all_follow w f t v rest ok.1 p, t.free a ((many f).write v ++ rest) ok.0)

module _ (t : Tokens) (l : LawfulTokens t) where
  pub point_fixed : Fixed t.unit (t.number_size + t.second_size) (point t)
  point_fixed = sequence_fixed t.unit t.number_size t.second_size t.number (λ x. t.second) l.number λ x ok. l.second

  pub placed_fixed : (n : ℕ) (f : Format ℕ) → Fixed t.unit n f → Fixed t.unit (n + (t.number_size + t.second_size)) (placed t f)
  placed_fixed n f x = sequence_fixed t.unit n (t.number_size + t.second_size) f (λ v. point t) x λ v ok. point_fixed

  pub symbol_fixed : Fixed t.unit t.symbol_size (prefix_symbol t)
  symbol_fixed = l.symbol_or_null last_location (omega arith) (omega arith)

  pub lead_fixed : Fixed t.unit (t.marker_size + (t.number_size + t.second_size)) (lead t)
  lead_fixed = placed_fixed t.marker_size (t.marker 1 4) (l.marker 1 4 (omega arith) (omega arith))

  pub spatial_fixed : Fixed t.unit (t.symbol_size + (t.number_size + t.second_size)) (spatial t)
  spatial_fixed = placed_fixed t.symbol_size (t.symbol last_writing) (l.symbol last_writing (omega arith) (omega arith))

  many_fixed : {A : Type 0} (n : ℕ) (f : Format A) → Fixed t.unit n f → Lawful t.unit (many f)
  many_fixed n f x = many_lawful t.unit f x.delimited.lawful (solid t.unit f x.delimited)

  pub prefix_lawful : Lawful t.unit (prefix t)
  prefix_lawful =
      sequence_lawful t.unit (t.marker 0 0) (λ a. prefix_symbols t) (l.marker 0 0 (omega arith) (omega arith)).delimited.lawful λ a ok.
      sequence_lawful t.unit (prefix_symbol t) (λ s. many (prefix_symbol t)) symbol_fixed.delimited.lawful λ s ok.
      many_fixed t.symbol_size (prefix_symbol t) symbol_fixed

  pub signbox_lawful : Lawful t.unit (signbox t)
  signbox_lawful =
      sequence_lawful t.unit (lead t) (λ h. many (spatial t)) lead_fixed.delimited.lawful λ h ok.
      many_fixed (t.symbol_size + (t.number_size + t.second_size)) (spatial t) spatial_fixed

  parts_lawful : Lawful t.unit (parts t)
  parts_lawful = sequence_lawful t.unit (optional (prefix t)) (λ p. signbox t) (optional_lawful t.unit (prefix t) prefix_lawful) λ p ok. signbox_lawful

  -- a signbox begins with its marker, which begins neither a prefix nor a symbol
  after_marker : {X : Type 0} (read : List ℕ → Answer X) (b : (ℕ × (ℕ × ℕ)) × List (ℕ × (ℕ × ℕ))) (rest : List ℕ)
      → ((u : List ℕ) → read ((t.marker 1 4).write b.0.0 ++ u) ≡ other) → read ((signbox t).write b ++ rest) ≡ other
  after_marker read b rest p =
      let m = (t.marker 1 4).write b.0.0 in
      let q = (point t).write b.0.1 in
      let s = (many (spatial t)).write b.1 in
      ap read (append_assoc (m ++ q) s rest ∙ append_assoc m q (s ++ rest)) ∙ p (q ++ (s ++ rest))

  pub prefix_follow : (p : Option (ℕ × (ℕ × List ℕ))) (b : (ℕ × (ℕ × ℕ)) × List (ℕ × (ℕ × ℕ))) (rest : List ℕ)
      → (optional (prefix t)).Valid p → (signbox t).Valid b → (optional (prefix t)).Follow p ((signbox t).write b ++ rest)
  prefix_follow none b rest ok box =
      absent_other ((signbox t).write b ++ rest)
      (sequence_other (t.marker 0 0) (λ a. prefix_symbols t) ((signbox t).write b ++ rest)
      (after_marker (t.marker 0 0).read b rest λ u. l.no_prefix_lem b.0.0 u (l.range 1 4 b.0.0 box.0.0)))
  prefix_follow (some p) b rest ok box = (
    (
      all_follow t.unit (prefix_symbol t) symbol_fixed.delimited p.1.1 ((signbox t).write b ++ rest) ok.1.1
          (absent_other ((signbox t).write b ++ rest)
          (after_marker (prefix_symbol t).read b rest λ u. l.no_symbol last_location b.0.0 u (l.range 1 4 b.0.0 box.0.0))),
      symbol_fixed.delimited.free p.1.0 _ ok.1.0,
    ),
    (l.marker 0 0 (omega arith) (omega arith)).delimited.free p.0 _ ok.0,
  )

  parts_ready : (v : Parts) → (parts t).Valid v → (parts t).Follow v []
  parts_ready v ok =
      let b = v.1 in
      let box = ok.1 in (
        (
          all_follow t.unit (spatial t) spatial_fixed.delimited b.1 [] box.1 (rw spatial_fixed.delimited.empty tt),
          lead_fixed.delimited.free b.0 _ box.0,
        ),
        prefix_follow v.0 b [] ok.0 box,
      )

-- Between the parts and the meaning.

spatial_back : (l : List (ℕ × (ℕ × ℕ))) → map of_spatial (map to_spatial l) ≡ l
spatial_back [] = refl
spatial_back (p ∷ l) = ap (λ k. p ∷ k) (spatial_back l)

spatial_forth : (l : List Spatial) → map to_spatial (map of_spatial l) ≡ l
spatial_forth [] = refl
spatial_forth (s ∷ l) = ap (λ k. s ∷ k) (spatial_forth l)

symbols_good : (l : List (ℕ × (ℕ × ℕ))) → All (spatial fsw).Valid l → All ValidSymbol (map to_spatial l)
symbols_good [] ok = tt
symbols_good (p ∷ l) ok = (ok.0, symbols_good l ok.1)

symbols_sound : (l : List Spatial) → All ValidSymbol l → All (spatial fsw).Valid (map of_spatial l)
symbols_sound [] ok = tt
symbols_sound (s ∷ l) ok = (ok.0, symbols_sound l ok.1)

prefix_good : (p : Option (ℕ × (ℕ × List ℕ))) → (optional (prefix fsw)).Valid p → All (Range 0 (last_code last_location)) (to_prefix p)
prefix_good none ok = tt
prefix_good (some p) ok = (ok.1.0, ok.1.1)

prefix_back : (p : Option (ℕ × (ℕ × List ℕ))) → (optional (prefix fsw)).Valid p → of_prefix (to_prefix p) ≡ p
prefix_back none ok = refl
prefix_back (some p) ok = let e : 0 ≡ p.0 = omega (arith, ok.0.1) in λ i. some (e i, (p.1.0, p.1.1))

prefix_sound : (l : List ℕ) → All (Range 0 (last_code last_location)) l → (optional (prefix fsw)).Valid (of_prefix l)
prefix_sound [] ok = tt
prefix_sound (a ∷ l) ok = ((omega arith, omega arith), (ok.0, ok.1))

prefix_forth : (l : List ℕ) → to_prefix (of_prefix l) ≡ l
prefix_forth [] = refl
prefix_forth (a ∷ l) = refl

-- tokens that can say what FSW can
module _ (t : Tokens) (alike : (parts t).Valid ≡ (parts fsw).Valid) where
  to_fsw : (v : Parts) → (parts t).Valid v → (parts fsw).Valid v
  to_fsw v ok = subst (λ (P : Parts → Type 0). P v) alike ok

  pub sound : (m : Meaning) → Valid m → (parts t).Valid (of_meaning m)
  sound m ok =
      subst (λ (P : Parts → Type 0). P (of_meaning m)) (sym alike)
      (prefix_sound m.prefix ok.prefix, ((ok.marker, ok.maximum), symbols_sound m.symbols ok.symbols))

  pub sign_inverse : Inverse (parts t) to_meaning of_meaning Valid
  sign_inverse = record {
    good = λ v ok.
        let k = to_fsw v ok in
        record { prefix = prefix_good v.0 k.0; marker = k.1.0.0; maximum = k.1.0.1; symbols = symbols_good v.1.1 k.1.1 };
    back = λ v ok.
        let k = to_fsw v ok in
        λ i. (prefix_back v.0 k.0 i, ((v.1.0.0, (v.1.0.1.0, v.1.0.1.1)), spatial_back v.1.1 i));
    sound = sound;
    forth = λ m ok i. record { prefix = prefix_forth m.prefix i; marker = m.marker; x = m.x; y = m.y; symbols = spatial_forth m.symbols i };
  }

  pub with_ready : LawfulTokens t → (m : Meaning) → Valid m → (sign_with t).Follow m []
  with_ready l m ok = parts_ready t l (of_meaning m) (sound m ok)

-- both sets can say the same
pub alike : (set : Charset) → (parts (tokens set)).Valid ≡ (parts fsw).Valid
alike Fsw = refl
alike Swu = refl

pub sign_lawful : (set : Charset) → Lawful (tokens set).unit (sign set)
sign_lawful set =
    mapped_lawful (tokens set).unit (parts (tokens set)) to_meaning of_meaning Valid (parts_lawful (tokens set) (lawful set)) (sign_inverse (tokens set) (alike set))

pub sign_ready : (set : Charset) (m : Meaning) → Valid m → (sign set).Follow m []
sign_ready set = with_ready (tokens set) (alike set) (lawful set)
