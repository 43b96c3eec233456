-- The offsets of a sign that was read, and signs equal in all but offsets.
use Rattle.std.proofs.Common.{◌≡◌, ℕ, zero, suc, ◌<◌, ◌≤◌, List, [], ◌∷◌, ◌++◌, map, length, get_or, take, sym, refl, ap, ◌∙◌, subst, arith, lit<}
use lib.ListN.{length-map}
use Rattle.format.specs.Format.{All, Pairwise}
use Rattle.format.specs.Numeral.{Range}
use Rattle.format.proofs.Lists.{all_append, all_map, all_weaker}
use Rattle.charset.specs.declared.Charset.{Charset}
use Rattle.charset.specs.declared.Charset.TheVariants.{Fsw, Swu}
use Rattle.grammar.specs.Sign.{Meaning, Valid, ValidSymbol}
use Rattle.grammar.specs.Size.{spatial_size, sign_size}
use Rattle.grammar.specs.Offsets.{steps, prefix_offsets, symbol_offsets, Rises, symbol_bytes}
use Rattle.grammar.proofs.Offsets.{steps_length, steps_at, offsets_rise, Stands, symbols_stand}
use Rattle.charset.specs.Tokens.{tokens, last_location, last_code}
use Rattle.token.specs.Result.{done}
use Rattle.token.specs.Padded.{padded}
use Rattle.token.proofs.PaddedLists.{padded_at, take_padded}
use Rattle.symbol.specs.Codes.{code_of, code_as, code_read}
use Rattle.symbol.proofs.CodeLaws.{code_laws}
use Rattle.reader.specs.Signs.{sign_of}
use Rattle.sign.specs.Reading.{packed, reading_of, reading_in}
use Rattle.sign.specs.OffsetLaws.{codes_in, offsets_in, ReadAlike, OffsetLaws}
use Rattle.sign.proofs.Packed.{Within, sign_within, sign_reads, read_means, meaning_of, packed_means}

codes_most : (m : Meaning) → Valid m → All (λ code. code ≤ 62592) (m.prefix ++ map (λ s. s.code) m.symbols)
codes_most m ok =
    all_append (λ code. code ≤ 62592) m.prefix (map (λ s. s.code) m.symbols)
    (all_weaker (Range 0 (last_code last_location)) (λ code. code ≤ 62592) (λ code h. let k = h.1 in omega arith) m.prefix ok.prefix)
    (all_map (λ code. code ≤ 62592) (λ s. s.code) m.symbols
    (all_weaker ValidSymbol (λ s. s.code ≤ 62592) (λ s h. let k = h.0.1 in omega arith) m.symbols ok.symbols))

-- what stands in a text as a symbol reads as its code
stand_read : (set : Charset) (text codes offsets : List ℕ) → All (λ code. code ≤ 62592) codes → Pairwise (Stands set text) codes offsets
    → Pairwise (λ code offset. code_read set (symbol_bytes set text offset) ≡ record { number = 0; place = 0; code = code }) codes offsets
unfolding code_read
stand_read set text [] [] most s = tt
stand_read set text [] (o ∷ offsets) most s = s
stand_read set text (c ∷ codes) [] most s = s
stand_read set text (c ∷ codes) (o ∷ offsets) most s =
    (ap code_as (ap (code_of set) s.0 ∙ (code_laws set).reads c _ ((code_laws set).all c most.0)), stand_read set text codes offsets most.1 s.1)

module _ (set : Charset) (m : Meaning) (w : Within m) where
  offsets_are : offsets_in (packed set m) ≡ prefix_offsets set (length m.prefix) ++ symbol_offsets set (length m.prefix) (length m.symbols)
  offsets_are =
      let p = prefix_offsets set (length m.prefix) in
      let n = symbol_offsets set (length m.prefix) (length m.symbols) in
      let a : length p ≡ length m.prefix = steps_length (tokens set).marker_size (tokens set).symbol_size (length m.prefix) in
      let b : length n ≡ length m.symbols = steps_length (sign_size set (length m.prefix) 0) (spatial_size set) (length m.symbols) in
      (λ i. take (sym a i) (padded 32 p) ++ take (sym b i) (padded 64 n))
      ∙ (λ i. take_padded 32 p (omega (arith, w.prefix)) i ++ take_padded 64 n (omega (arith, w.symbols)) i)

  codes_are : codes_in (packed set m) ≡ m.prefix ++ map (λ s. s.code) m.symbols
  codes_are =
      let l = map (λ s. s.code) m.symbols in
      let b : length l ≡ length m.symbols = length-map m.symbols (λ s. s.code) in
      (λ i. take (length m.prefix) (padded 32 m.prefix) ++ take (sym b i) (padded 64 l))
      ∙ (λ i. take_padded 32 m.prefix w.prefix i ++ take_padded 64 l (omega (arith, w.symbols)) i)

-- of a text with a meaning
module _ (set : Charset) (text : List ℕ) (m : Meaning) (e : sign_of set text ≡ done m) where
  abbrev codes : List ℕ
  codes = m.prefix ++ map (λ s. s.code) m.symbols

  abbrev offsets : List ℕ
  offsets = prefix_offsets set (length m.prefix) ++ symbol_offsets set (length m.prefix) (length m.symbols)

  within : Within m
  within = sign_within set text m e

  rise_meant : Rises (offsets_in (reading_in set text).sign)
  unfolding reading_of
  rise_meant = rw (e, offsets_are set m within) (offsets_rise set (length m.prefix) (length m.symbols))

  stand : Pairwise (Stands set text) codes offsets
  stand = subst (λ t. Pairwise (Stands set t) codes offsets) (sym (sign_reads set text m e)) (symbols_stand set m within.valid)

  back_meant : Pairwise (λ code offset. code_read set (symbol_bytes set text offset) ≡ record { number = 0; place = 0; code = code }) (codes_in (reading_in set text).sign) (offsets_in (reading_in set text).sign)
  unfolding reading_of
  back_meant = rw (e, codes_are set m within, offsets_are set m within) (stand_read set text codes offsets (codes_most m within.valid) stand)

module _ (set : Charset) (text : List ℕ) (set₂ : Charset) (text₂ : List ℕ) where
  pub one_meaning : ReadAlike set text set₂ text₂ → (m : Meaning) × ((sign_of set text ≡ done m) × (sign_of set₂ text₂ ≡ done m))
  unfolding reading_of
  one_meaning a =
      let k = read_means set text a.read in
      let k₂ = read_means set₂ text₂ a.read₂ in
      let same : k.0 ≡ k₂.0 =
      sym (packed_means set k.0 (sign_within set text k.0 k.1))
      ∙ ap meaning_of (rw (k.1, k₂.1) at a.equal)
      ∙ packed_means set₂ k₂.0 (sign_within set₂ text₂ k₂.0 k₂.1) in
      (k₂.0, (k.1 ∙ ap done same, k₂.1))

  pub meant_alike : (m : Meaning) → sign_of set text ≡ done m → sign_of set₂ text₂ ≡ done m → ReadAlike set text set₂ text₂
  unfolding reading_of
  meant_alike m e f = record { read = rw e refl; read₂ = rw f refl; equal = rw (e, f) refl }

-- the first offset tells the character sets apart
first_step : (k first size n : ℕ) → 0 < k → get_or (padded k (steps first size (suc n))) 0 0 ≡ first
first_step k first size n h = padded_at k (steps first size (suc n)) 0 h ∙ steps_at first size (suc n) 0 (omega arith) ∙ omega arith

counts_none : (p n : ℕ) → padded 32 (prefix_offsets Fsw p) ≡ padded 32 (prefix_offsets Swu p) → padded 64 (symbol_offsets Fsw p n) ≡ padded 64 (symbol_offsets Swu p n)
    → (p ≡ 0) × (n ≡ 0)
counts_none zero zero e f = (refl, refl)
counts_none zero (suc n) e f =
    let k : ◌≡◌ {A = ℕ} 8 12 = sym (first_step 64 8 13 n (lit< tt)) ∙ ap (λ l. get_or l 0 0) f ∙ first_step 64 12 12 n (lit< tt) in absurd (omega arith)
counts_none (suc p) n e f =
    let k : ◌≡◌ {A = ℕ} 1 4 = sym (first_step 32 1 6 p (lit< tt)) ∙ ap (λ l. get_or l 0 0) e ∙ first_step 32 4 4 p (lit< tt) in absurd (omega arith)

pub packed_apart : (m m₂ : Meaning) → packed Fsw m ≡ packed Swu m₂ → (length m.prefix ≡ 0) × (length m.symbols ≡ 0)
packed_apart m m₂ e =
    let p : length m₂.prefix ≡ length m.prefix = sym (ap (λ s. s.prefix_count) e) in
    let n : length m₂.symbols ≡ length m.symbols = sym (ap (λ s. s.symbol_count) e) in
    counts_none (length m.prefix) (length m.symbols)
    (ap (λ s. s.prefix_offsets) e ∙ (λ i. padded 32 (prefix_offsets Swu (p i))))
    (ap (λ s. s.symbol_offsets) e ∙ (λ i. padded 64 (symbol_offsets Swu (p i) (n i))))

apart_meant : (text text₂ : List ℕ) (m m₂ : Meaning) → sign_of Fsw text ≡ done m → sign_of Swu text₂ ≡ done m₂ → (reading_in Fsw text).sign ≡ (reading_in Swu text₂).sign
    → ((reading_in Fsw text).sign.prefix_count ≡ 0) × ((reading_in Fsw text).sign.symbol_count ≡ 0)
unfolding reading_of
apart_meant text text₂ m m₂ q q₂ = rw (q, q₂) (packed_apart m m₂)

apart : (text text₂ : List ℕ) → (reading_in Fsw text).number ≡ 0 → (reading_in Swu text₂).number ≡ 0 → (reading_in Fsw text).sign ≡ (reading_in Swu text₂).sign
    → ((reading_in Fsw text).sign.prefix_count ≡ 0) × ((reading_in Fsw text).sign.symbol_count ≡ 0)
apart text text₂ z z₂ =
    let k = read_means Fsw text z in
    let k₂ = read_means Swu text₂ z₂ in
    apart_meant text text₂ k.0 k₂.0 k.1 k₂.1

pub offset_laws : OffsetLaws
offset_laws = record {
  rise = λ set text z. let k = read_means set text z in rise_meant set text k.0 k.1;
  back = λ set text z. let k = read_means set text z in back_meant set text k.0 k.1;
  apart = apart;
  alike = λ set text set₂ text₂. (one_meaning set text set₂ text₂, λ k. meant_alike set text set₂ text₂ k.0 k.1.0 k.1.1);
}
