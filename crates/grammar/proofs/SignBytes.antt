-- Every byte that a sign is written with is over 47: none is a dash, and none ends a line.
use Prim.Native.Nat.{ℕ, ◌+◌, ◌-◌, ◌*◌, ◌/◌, ◌%◌, ◌<◌, min}
use mathlib.Core.List.{List, [], ◌∷◌}
use mathlib.Core.Bool.{Bool, true, false}
use mathlib.Core.Logic.{inl, inr}
use mathlib.Core.Option.{none, some}
use native.Mathlib.Omega.{arith}
use lib.Dec.{ltb, eqb}
use Rattle.format.specs.Format.{Format, All, choose, sequence, optional, many, either}
use Rattle.format.proofs.Lists.{all_append}
use Rattle.charset.specs.declared.Charset.{Charset}
use Rattle.charset.specs.declared.Charset.TheVariants.{Fsw, Swu}
use Rattle.charset.specs.Bytes.{digit, digits, letter, after, character}
use Rattle.charset.specs.Tokens.{Tokens, tokens, last_writing, last_location, last_code, base, turn, parts_of, key, null, to_either, null_or_key, fsw_number}
use Rattle.grammar.specs.Sign.{Meaning, of_meaning, placed, point, prefix, prefix_symbol, prefix_symbols, lead, spatial, signbox, parts, sign_text}

abbrev pub Over : List ℕ → Type 0
Over bytes = All (λ b. 47 < b) bytes

abbrev Above : {A : Type 0} → Format A → Type 0
Above {A} f = (v : A) → Over (f.write v)

above_sequence : {A B : Type 0} (f : Format A) (g : A → Format B) → Above f → ((a : A) → Above (g a)) → Above (sequence f g)
above_sequence f g p q v = all_append (λ b. 47 < b) (f.write v.0) ((g v.0).write v.1) (p v.0) (q v.0 v.1)

above_optional : {A : Type 0} (f : Format A) → Above f → Above (optional f)
above_optional f p none = tt
above_optional f p (some a) = p a

above_many : {A : Type 0} (f : Format A) → Above f → Above (many f)
above_many f p [] = tt
above_many f p (a ∷ l) = all_append (λ b. 47 < b) (f.write a) ((many f).write l) (p a) (above_many f p l)

above_either : {A B : Type 0} (f : Format A) (g : Format B) → Above f → Above g → Above (either f g)
above_either f g p q (inl a) = p a
above_either f g p q (inr b) = q b

-- BYTES
above_digit : (lo hi : ℕ) → Above (digit lo hi)
above_digit lo hi v = (go (ltb v 10), tt)
  where
    go : (t : Bool) → 47 < choose t (48 + v) (87 + v)
    go true = omega arith
    go false = omega arith

above_digits : (weights : List ℕ) (lo hi : ℕ) → Above (digits weights lo hi)
above_digits [] lo hi v = above_digit lo hi v
above_digits (p ∷ ps) lo hi v =
    above_sequence (digit (lo / p) (hi / p)) (λ d. digits ps (lo - d * p) (min (p - 1) (hi - d * p)))
    (above_digit (lo / p) (hi / p))
    (λ d. above_digits ps (lo - d * p) (min (p - 1) (hi - d * p)))
    (v / p, v % p)

above_letter : (lo hi : ℕ) → Above (letter lo hi)
above_letter lo hi v = (go (eqb v 0) (eqb v 1) (eqb v 2) (eqb v 3), tt)
  where
    go : (a b c d : Bool) → 47 < choose a 65 (choose b 66 (choose c 76 (choose d 77 82)))
    go true b c d = omega arith
    go false true c d = omega arith
    go false false true d = omega arith
    go false false false true = omega arith
    go false false false false = omega arith

above_character : (from lo hi : ℕ) → Above (character from lo hi)
above_character from lo hi v = (omega arith, (omega arith, (omega arith, (omega arith, tt))))

above_after : {A : Type 0} (b : ℕ) (f : Format A) → 47 < b → Above f → Above (after b f)
above_after b f h p v = (h, p v)

-- TOKENS
above_turns : (lo hi top : ℕ) → Above (sequence (base lo hi) λ b. turn top)
above_turns lo hi top = above_sequence (base lo hi) (λ b. turn top) (above_digits (256 ∷ 16 ∷ []) lo hi) (λ b. above_digits (16 ∷ []) 0 top)

record AboveTokens (t : Tokens) : Type 0 where
  marker : (lo hi : ℕ) → Above (t.marker lo hi)
  symbol : (top : ℕ) → Above (t.symbol top)
  symbol_or_null : (top : ℕ) → Above (t.symbol_or_null top)
  number : Above t.number
  second : Above t.second

above_tokens : (set : Charset) → AboveTokens (tokens set)
above_tokens Fsw =
    record {
      marker = above_letter;
      symbol = λ top. above_after 83 (key top) (omega arith) (above-key top);
      symbol_or_null = λ top. above_after 83 (null_or_key top) (omega arith) (λ v. above_either null (key top) above-null (above-key top) (to_either v));
      number = above_digits (100 ∷ 10 ∷ []) 250 749;
      second = above_after 120 fsw_number (omega arith) (above_digits (100 ∷ 10 ∷ []) 250 749);
    }
  where
    above-key : (top : ℕ) → Above (key top)
    above-key top v = above_turns 0x100 top 0x5f (parts_of v)

    above-null : Above null
    above-null v = above_turns 0 0 0 (0, 0)
above_tokens Swu =
    record {
      marker = above_character 0x1d800;
      symbol = λ top. above_character 0x40000 1 (last_code top);
      symbol_or_null = λ top. above_character 0x40000 0 (last_code top);
      number = above_character (0x1d80c - 250) 250 749;
      second = above_character (0x1d80c - 250) 250 749;
    }

-- SIGNS
module _ (t : Tokens) (a : AboveTokens t) where
  above_placed : (f : Format ℕ) → Above f → Above (placed t f)
  above_placed f p = above_sequence f (λ v. point t) p (λ v. above_sequence t.number (λ x. t.second) a.number (λ x. a.second))

  above_prefix : Above (prefix t)
  above_prefix =
      let one : Above (prefix_symbol t) = a.symbol_or_null last_location in
      above_sequence (t.marker 0 0) (λ v. prefix_symbols t) (a.marker 0 0)
      (λ v. above_sequence (prefix_symbol t) (λ first. many (prefix_symbol t)) one (λ first. above_many (prefix_symbol t) one))

  above_parts : Above (parts t)
  above_parts =
      above_sequence (optional (prefix t)) (λ p. signbox t) (above_optional (prefix t) above_prefix)
      (λ p. above_sequence (lead t) (λ h. many (spatial t)) (above_placed (t.marker 1 4) (a.marker 1 4)) (λ h. above_many (spatial t) (above_placed (t.symbol last_writing) (a.symbol last_writing))))

pub sign_over : (set : Charset) (m : Meaning) → Over (sign_text set m)
sign_over set m = above_parts (tokens set) (above_tokens set) (of_meaning m)
