-- Where each symbol of a sign stands in its text.
use Prim.Native.Nat.{ℕ, zero, suc, ◌+◌, ◌*◌, ◌≤◌, ◌<◌}
use mathlib.Core.List.{List, [], ◌∷◌, ◌++◌, append_assoc, append-nil, map, map-id, map-map}
use mathlib.Core.Path.{◌≡◌, refl, sym, ap, subst, ◌∙◌}
use lib.ListN.{length, get_or, take, drop, length-append, length-map}
use lib.Seq.{take_at, drop_at}
use native.Mathlib.Omega.{arith}
use native.Mathlib.Nat.{suc-mul}
use Rattle.format.specs.Format.{Format, All, Pairwise, many, optional}
use Rattle.format.proofs.Lists.{all_append, pairs_append}
use Rattle.format.proofs.Delimited.{Fixed}
use Rattle.charset.specs.declared.Charset.{Charset}
use Rattle.charset.specs.declared.Charset.TheVariants.{Fsw, Swu}
use Rattle.charset.specs.Tokens.{Tokens, tokens, last_writing, last_location, last_punctuation}
use Rattle.charset.proofs.Sets.{lawful}
use Rattle.charset.proofs.Texts.{null_or_symbol_text, symbol_text_lem}
use Rattle.grammar.specs.Sign.{Meaning, Valid, point, prefix_symbol, prefix, lead, spatial, of_spatial, of_prefix, sign_text}
use Rattle.grammar.specs.Size.{spatial_size, sign_size}
use Rattle.grammar.specs.Offsets.{steps, prefix_offsets, symbol_offsets, Rises, symbol_bytes}
use Rattle.grammar.proofs.Sign.{symbol_fixed, lead_fixed, spatial_fixed, sound, alike}
use Rattle.grammar.proofs.SignSize.{prefix_size_lem}

-- STEPS

pub steps_length : (first size n : ℕ) → length (steps first size n) ≡ n
unfolding steps
steps_length first size zero = refl
steps_length first size (suc n) = ap suc (steps_length (first + size) size n)

pub steps_at : (first size n i : ℕ) → i < n → get_or (steps first size n) i 0 ≡ first + i * size
unfolding steps
steps_at first size zero i h = absurd (omega arith)
steps_at first size (suc n) zero h = omega arith
steps_at first size (suc n) (suc i) h =
    let e = steps_at (first + size) size n i (omega arith) in omega (arith, suc-mul i size)

steps_above : (a first size n : ℕ) → a < first → All (λ b. a < b) (steps first size n)
unfolding steps
steps_above a first size zero h = tt
steps_above a first size (suc n) h = (h, steps_above a (first + size) size n (omega arith))

-- steps rise, and all that follows them rises if it is above the last of them
steps_rise : (first size n : ℕ) (l : List ℕ) → 0 < size → Rises l → ((a : ℕ) → a < first + n * size → All (λ b. a < b) l) → Rises (steps first size n ++ l)
unfolding steps
steps_rise first size zero l h r above = r
steps_rise first size (suc n) l h r above =
    let e = suc-mul n size in (
      all_append (λ b. first < b) (steps (first + size) size n) l (steps_above first (first + size) size n (omega arith)) (above first (omega arith)),
      steps_rise (first + size) size n l h r (λ a k. above a (omega arith)),
    )

sizes_some : (set : Charset) → (0 < (tokens set).symbol_size) × (0 < spatial_size set)
sizes_some Fsw = (omega arith, omega arith)
sizes_some Swu = (omega arith, omega arith)

pub offsets_rise : (set : Charset) (p n : ℕ) → Rises (prefix_offsets set p ++ symbol_offsets set p n)
unfolding steps
offsets_rise set p n = go p
  where
    box : (p : ℕ) → Rises (symbol_offsets set p n)
    box p =
        let l = symbol_offsets set p n in
        rw (append-nil l) at (steps_rise (sign_size set p 0) (spatial_size set) n [] (sizes_some set).1 tt λ a h. tt)

    go : (p : ℕ) → Rises (prefix_offsets set p ++ symbol_offsets set p n)
    go zero = box zero
    go (suc p) =
        steps_rise (tokens set).marker_size (tokens set).symbol_size (suc p) (symbol_offsets set (suc p) n) (sizes_some set).0 (box (suc p))
        λ a h. steps_above a (sign_size set (suc p) 0) (spatial_size set) n (omega arith)

-- STANDING

-- any symbol's key or character, whatever the class that it was read in
abbrev pub symbol_text : Charset → ℕ → List ℕ
symbol_text set code = ((tokens set).symbol_or_null last_punctuation).write code

abbrev pub Stands : Charset → List ℕ → ℕ → ℕ → Type 0
Stands set text code offset = symbol_bytes set text offset ≡ symbol_text set code

-- zero or more of a format that begins with a symbol, in the midst of a text
module _ (set : Charset) {A : Type 0} (f : Format A) (size : ℕ) (x : Fixed (tokens set).unit size f) (code : A → ℕ)
    (begins : (a : A) → f.Valid a → (rest : List ℕ) → take (tokens set).symbol_size (f.write a ++ rest) ≡ symbol_text set (code a)) (text after : List ℕ) where
  many_stand : (l : List A) → All f.Valid l → (before : List ℕ) → text ≡ before ++ ((many f).write l ++ after) → (first : ℕ) → length before ≡ first
      → Pairwise (Stands set text) (map code l) (steps first size (length l))
  unfolding steps
  many_stand [] ok before e first n = tt
  many_stand (a ∷ l) ok before e first n =
      let w = f.write a in
      let s = (many f).write l in
      let t : text ≡ before ++ (w ++ (s ++ after)) = e ∙ ap (λ t. before ++ t) (append_assoc w s after) in
      let here : drop first text ≡ w ++ (s ++ after) = ap (drop first) t ∙ drop_at before (w ++ (s ++ after)) first n in (
        ap (take (tokens set).symbol_size) here ∙ begins a ok.0 (s ++ after),
        many_stand l ok.1 (before ++ w) (t ∙ sym (append_assoc before w (s ++ after))) (first + size) (length-append before w ∙ (λ i. n i + x.size a ok.0 i)),
      )

some_code : (set : Charset) (code : ℕ) → ((tokens set).symbol last_writing).Valid code → 1 ≤ code
some_code Fsw code ok = ok.0
some_code Swu code ok = ok.0

module _ (set : Charset) where
  abbrev t : Tokens
  t = tokens set

  prefix_begins : (a : ℕ) → (prefix_symbol t).Valid a → (rest : List ℕ) → take t.symbol_size ((prefix_symbol t).write a ++ rest) ≡ symbol_text set a
  prefix_begins a ok rest = take_at ((prefix_symbol t).write a) rest t.symbol_size ((symbol_fixed t (lawful set)).size a ok) ∙ sym (null_or_symbol_text set last_location a)

  spatial_begins : (a : ℕ × (ℕ × ℕ)) → (spatial t).Valid a → (rest : List ℕ) → take t.symbol_size ((spatial t).write a ++ rest) ≡ symbol_text set a.0
  spatial_begins a ok rest =
      let w = (t.symbol last_writing).write a.0 in
      let p = (point t).write a.1 in
      ap (take t.symbol_size) (append_assoc w p rest)
      ∙ take_at w (p ++ rest) t.symbol_size (((lawful set).symbol last_writing (omega arith) (omega arith)).size a.0 ok.0)
      ∙ sym (symbol_text_lem set last_writing a.0 (some_code set a.0 ok.0))

  prefix_stand : (l : List ℕ) → (optional (prefix t)).Valid (of_prefix l) → (text rest : List ℕ) → text ≡ (optional (prefix t)).write (of_prefix l) ++ rest
      → Pairwise (Stands set text) l (prefix_offsets set (length l))
  unfolding steps
  prefix_stand [] ok text rest e = tt
  prefix_stand (a ∷ l) ok text rest e =
      let m = (t.marker 0 0).write 0 in
      let s = (many (prefix_symbol t)).write (a ∷ l) in
      subst (λ k. Pairwise (Stands set text) k (prefix_offsets set (length (a ∷ l)))) (map-id (a ∷ l))
      (many_stand set (prefix_symbol t) t.symbol_size (symbol_fixed t (lawful set)) (λ c. c) prefix_begins text rest (a ∷ l) ok.1 m
      (e ∙ append_assoc m s rest) t.marker_size (((lawful set).marker 0 0 (omega arith) (omega arith)).size 0 ok.0))

  pub symbols_stand : (m : Meaning) → Valid m
      → Pairwise (Stands set (sign_text set m)) (m.prefix ++ map (λ s. s.code) m.symbols)
      (prefix_offsets set (length m.prefix) ++ symbol_offsets set (length m.prefix) (length m.symbols))
  symbols_stand m ok =
      let k = sound t (alike set) m ok in
      let p = (optional (prefix t)).write (of_prefix m.prefix) in
      let h = (lead t).write (m.marker, (m.x, m.y)) in
      let l = map of_spatial m.symbols in
      let s = (many (spatial t)).write l in
      let size : length (p ++ h) ≡ sign_size set (length m.prefix) 0 =
      length-append p h ∙ (λ i. prefix_size_lem set m.prefix k.0 i + (lead_fixed t (lawful set)).size (m.marker, (m.x, m.y)) k.1.0 i) ∙ omega arith in
      let box : Pairwise (Stands set (sign_text set m)) (map (λ a. a.0) l) (symbol_offsets set (length m.prefix) (length l)) =
      many_stand set (spatial t) (spatial_size set) (spatial_fixed t (lawful set)) (λ a. a.0) spatial_begins (sign_text set m) [] l k.1.1 (p ++ h)
      (ap (λ s. p ++ (h ++ s)) (sym (append-nil s)) ∙ sym (append_assoc p h (s ++ []))) (sign_size set (length m.prefix) 0) size in
      pairs_append (Stands set (sign_text set m)) m.prefix (map (λ s. s.code) m.symbols) (prefix_offsets set (length m.prefix))
      (symbol_offsets set (length m.prefix) (length m.symbols))
      (prefix_stand m.prefix k.0 (sign_text set m) (h ++ s) refl)
      (rw (map-map (λ a. a.0) of_spatial m.symbols, length-map m.symbols of_spatial) at box)
