-- A text that begins with a sign begins with the words of the sign's prefix.
use Prim.Native.Nat.{ℕ, zero, suc, ◌≤◌}
use mathlib.Core.Path.{◌≡◌, refl, ap, ◌∙◌}
use mathlib.Core.List.{List, [], ◌∷◌, ◌++◌, append_assoc, map}
use mathlib.Core.Bool.{true, false}
use native.Mathlib.Omega.{arith}
use lib.ListN.{length, drop, get_or, length-append}
use lib.Seq.{take_at, drop_at}
use borrow.Author.Tests.{eq-eqb, le-leb}
use Rattle.format.specs.Format.{All, many, optional, write_maybe}
use Rattle.charset.specs.declared.Charset.{Charset}
use Rattle.charset.specs.declared.Charset.TheVariants.{Fsw, Swu}
use Rattle.charset.specs.Tokens.{Tokens, tokens}
use Rattle.charset.proofs.Sets.{lawful}
use Rattle.grammar.specs.Sign.{Meaning, point, prefix_symbol, prefix, spatial, signbox, of_prefix, of_meaning}
use Rattle.grammar.proofs.Sign.{symbol_fixed, sound, alike}
use Rattle.format.specs.Numeral.{Range}
use Rattle.token.specs.Result.{done}
use Rattle.reader.specs.Signs.{sign_of}
use Rattle.sign.proofs.Packed.{sign_within, sign_reads}
use Rattle.arrangement.specs.Prefixes.{prefix_before}
use Rattle.prefixes.specs.Words.{number, word_of, lead_byte, begins, words_from, marked, words_in}
use Rattle.prefixes.proofs.Reading.{none_here, one_here}
use Rattle.prefixes.proofs.Rising.{words_order}

-- a marker of a signbox is no A and begins no symbol
pub record Boxed (set : Charset) (text : List ℕ) : Type 0 where
  pub no_a : marked set text ≡ false
  pub no_symbol : begins set text ≡ false

marker_boxed : (set : Charset) (m : ℕ) (u : List ℕ) → Range 1 4 m → Boxed set (((tokens set).marker 1 4).write m ++ u)
marker_boxed set zero u ok = absurd (omega (arith, ok.0))
marker_boxed Fsw (suc zero) u ok = record { no_a = refl; no_symbol = refl }
marker_boxed Fsw (suc (suc zero)) u ok = record { no_a = refl; no_symbol = refl }
marker_boxed Fsw (suc (suc (suc zero))) u ok = record { no_a = refl; no_symbol = refl }
marker_boxed Fsw (suc (suc (suc (suc zero)))) u ok = record { no_a = refl; no_symbol = refl }
marker_boxed Swu (suc zero) u ok = record { no_a = refl; no_symbol = refl }
marker_boxed Swu (suc (suc zero)) u ok = record { no_a = refl; no_symbol = refl }
marker_boxed Swu (suc (suc (suc zero))) u ok = record { no_a = refl; no_symbol = refl }
marker_boxed Swu (suc (suc (suc (suc zero)))) u ok = record { no_a = refl; no_symbol = refl }
marker_boxed set (suc (suc (suc (suc (suc m))))) u ok = absurd (omega (arith, ok.1))

-- every symbol begins with the lead byte
lead_written : (set : Charset) (a : ℕ) (u : List ℕ) → (prefix_symbol (tokens set)).Valid a → get_or ((prefix_symbol (tokens set)).write a ++ u) 0 0 ≡ lead_byte set
lead_written Fsw a u ok = refl
lead_written Swu a u ok = omega (arith, ok.1)

-- the A is read where it was written
marker_written : (set : Charset) (u : List ℕ) → marked set (((tokens set).marker 0 0).write 0 ++ u) ≡ true
marker_written Fsw u = refl
marker_written Swu u = refl

after_marker : (set : Charset) (u : List ℕ) → drop (tokens set).marker_size (((tokens set).marker 0 0).write 0 ++ u) ≡ u
after_marker Fsw u = refl
after_marker Swu u = refl

module _ (set : Charset) where
  abbrev t : Tokens
  t = tokens set

  abbrev Box : Type 0
  Box = (ℕ × (ℕ × ℕ)) × List (ℕ × (ℕ × ℕ))

  size_written : (a : ℕ) → (prefix_symbol t).Valid a → length ((prefix_symbol t).write a) ≡ t.symbol_size
  size_written = (symbol_fixed t (lawful set)).size

  begins_written : (a : ℕ) (u : List ℕ) → (prefix_symbol t).Valid a → begins set ((prefix_symbol t).write a ++ u) ≡ true
  begins_written a u ok =
      let w = (prefix_symbol t).write a in
      rw (
        eq-eqb (get_or (w ++ u) 0 0) (lead_byte set) (lead_written set a u ok),
        le-leb t.symbol_size (length (w ++ u)) (omega (arith, length-append w u, size_written a ok)),
      )

  one_written : (k a : ℕ) (u : List ℕ) → (prefix_symbol t).Valid a → words_from set (suc k) ((prefix_symbol t).write a ++ u) ≡ word_of set a ∷ words_from set k u
  unfolding word_of
  one_written k a u ok =
      let w = (prefix_symbol t).write a in
      one_here set (w ++ u) (begins_written a u ok) k
      ∙ ap (λ l. number l ∷ words_from set k (drop t.symbol_size (w ++ u))) (take_at w u t.symbol_size (size_written a ok))
      ∙ ap (λ l. number w ∷ words_from set k l) (drop_at w u t.symbol_size (size_written a ok))

  -- all that were written are read, up to what begins no symbol
  words_of : (n : ℕ) (l tail : List ℕ) → length l ≤ n → All (prefix_symbol t).Valid l → begins set tail ≡ false
      → words_from set n ((many (prefix_symbol t)).write l ++ tail) ≡ map (word_of set) l
  unfolding words_from
  words_of zero [] tail h ok e = refl
  words_of zero (a ∷ l) tail h ok e = absurd (omega (arith, h))
  words_of (suc n) [] tail h ok e = none_here set tail e n
  words_of (suc n) (a ∷ l) tail h ok e =
      let rest = (many (prefix_symbol t)).write l ++ tail in
      ap (words_from set (suc n)) (append_assoc ((prefix_symbol t).write a) ((many (prefix_symbol t)).write l) tail)
      ∙ one_written n a rest ok.0
      ∙ ap (λ k. word_of set a ∷ k) (words_of n l tail (omega arith) ok.1 e)

  -- a signbox begins with its marker
  box_boxed : (b : Box) (rest : List ℕ) → (signbox t).Valid b → Boxed set ((signbox t).write b ++ rest)
  box_boxed b rest ok =
      let m = (t.marker 1 4).write b.0.0 in
      let q = (point t).write b.0.1 in
      let s = (many (spatial t)).write b.1 in
      rw (append_assoc (m ++ q) s rest, append_assoc m q (s ++ rest))
      (marker_boxed set b.0.0 (q ++ (s ++ rest)) ((lawful set).range 1 4 b.0.0 ok.0.0))

  parts_words : (l : List ℕ) (b : Box) (rest : List ℕ) → length l ≤ 32 → (optional (prefix t)).Valid (of_prefix l) → (signbox t).Valid b
      → words_in set ((write_maybe (prefix t).write (of_prefix l) ++ (signbox t).write b) ++ rest) ≡ map (word_of set) l
  unfolding words_in
  parts_words [] b rest h ok box = rw (box_boxed b rest box).no_a
  parts_words (a ∷ l) b rest h ok box =
      let m = (t.marker 0 0).write 0 in
      let s = (many (prefix_symbol t)).write (a ∷ l) in
      let x = (signbox t).write b in
      ap (words_in set) (append_assoc (m ++ s) x rest ∙ append_assoc m s (x ++ rest))
      ∙ rw (marker_written set (s ++ (x ++ rest)), after_marker set (s ++ (x ++ rest)))
      (words_of 32 (a ∷ l) (x ++ rest) h ok.1 (box_boxed b rest box).no_symbol)

  pub sign_words : (text rest : List ℕ) (m : Meaning) → sign_of set text ≡ done m → words_in set (text ++ rest) ≡ map (word_of set) m.prefix
  sign_words text rest m e =
      let w = sign_within set text m e in
      let ok = sound t (alike set) m w.valid in
      ap (λ x. words_in set (x ++ rest)) (sign_reads set text m e)
      ∙ parts_words m.prefix (of_meaning m).1 rest w.prefix ok.0 ok.1

  -- so texts that begin with signs compare by their words as the signs by their prefixes
  pub sign_before : (a b r s : List ℕ) (m n : Meaning) → sign_of set a ≡ done m → sign_of set b ≡ done n
      → prefix_before (words_in set (a ++ r)) (words_in set (b ++ s)) ≡ prefix_before m.prefix n.prefix
  sign_before a b r s m n e f =
      ap (λ x. prefix_before x (words_in set (b ++ s))) (sign_words a r m e)
      ∙ ap (prefix_before (map (word_of set) m.prefix)) (sign_words b s n f)
      ∙ words_order set m.prefix n.prefix (sign_within set a m e).valid.prefix (sign_within set b n f).valid.prefix
