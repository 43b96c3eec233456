-- The sign is exact in both character sets, with a wrong number told at the byte where it goes wrong.
use Prim.Native.Nat.{ℕ}
use mathlib.Core.List.{[]}
use mathlib.Core.Path.{◌≡◌, refl}
use native.Mathlib.Omega.{arith}
use Rattle.format.specs.Format.{Format, optional, many}
use Rattle.format.proofs.Exact.{Exact}
use Rattle.format.proofs.Parts.{Inverse}
use Rattle.format.proofs.ExactParts.{sequence_exact, mapped_exact, optional_exact}
use Rattle.format.proofs.ExactMany.{many_exact}
use Rattle.format.proofs.Delimited.{Fixed, solid}
use Rattle.charset.specs.declared.Charset.{Charset}
use Rattle.charset.specs.declared.Charset.TheVariants.{Fsw, Swu}
use Rattle.charset.specs.Tokens.{Tokens, fsw, last_writing, last_location}
use Rattle.charset.proofs.Sets.{LawfulTokens, exact_tokens, exact_lawful, ExactTokens, exact}
use Rattle.grammar.specs.Sign.{Valid, point, placed, prefix_symbol, prefix_symbols, prefix, lead, spatial, signbox, parts, Meaning, to_meaning, of_meaning, sign_with}
use Rattle.grammar.proofs.Sign.{symbol_fixed, spatial_fixed, sign_inverse, with_ready}

module _ (t : Tokens) (x : ExactTokens t) where
  pub point_exact : Exact t.unit (point t)
  point_exact = sequence_exact t.unit t.number (λ n. t.second) x.number λ n ok. x.second

  pub placed_exact : (f : Format ℕ) → Exact t.unit f → Exact t.unit (placed t f)
  placed_exact f e = sequence_exact t.unit f (λ v. point t) e λ v ok. point_exact

module _ (t : Tokens) (l : LawfulTokens t) (x : ExactTokens t) where
  all_exact : {A : Type 0} (n : ℕ) (f : Format A) → Fixed t.unit n f → Exact t.unit f → Exact t.unit (many f)
  all_exact n f d e = many_exact t.unit f e (solid t.unit f d.delimited)

  symbol_exact : Exact t.unit (prefix_symbol t)
  symbol_exact = x.symbol_or_null last_location (omega arith) (omega arith)

  pub prefix_exact_lem : Exact t.unit (prefix t)
  prefix_exact_lem =
      sequence_exact t.unit (t.marker 0 0) (λ a. prefix_symbols t) (x.marker 0 0 (omega arith) (omega arith)) λ a ok.
      sequence_exact t.unit (prefix_symbol t) (λ s. many (prefix_symbol t)) symbol_exact λ s ok.
      all_exact t.symbol_size (prefix_symbol t) (symbol_fixed t l) symbol_exact

  pub signbox_exact_lem : Exact t.unit (signbox t)
  signbox_exact_lem =
      sequence_exact t.unit (lead t) (λ h. many (spatial t)) (placed_exact t x (t.marker 1 4) (x.marker 1 4 (omega arith) (omega arith))) λ h ok.
      all_exact _ (spatial t) (spatial_fixed t l) (placed_exact t x (t.symbol last_writing) (x.symbol last_writing (omega arith) (omega arith)))

  parts_exact : Exact t.unit (parts t)
  parts_exact = sequence_exact t.unit (optional (prefix t)) (λ p. signbox t) (optional_exact t.unit (prefix t) prefix_exact_lem) λ p ok. signbox_exact_lem

exact_alike : (set : Charset) → (parts (exact_tokens set)).Valid ≡ (parts fsw).Valid
exact_alike Fsw = refl
exact_alike Swu = refl

pub exact_inverse : (set : Charset) → Inverse (parts (exact_tokens set)) to_meaning of_meaning Valid
exact_inverse set = sign_inverse (exact_tokens set) (exact_alike set)

-- the sign with exact places
pub sign_exact : (set : Charset) → Exact (exact_tokens set).unit (sign_with (exact_tokens set))
sign_exact set =
    mapped_exact (exact_tokens set).unit (parts (exact_tokens set)) to_meaning of_meaning Valid (parts_exact (exact_tokens set) (exact_lawful set) (exact set))
    (exact_inverse set)

pub exact_ready : (set : Charset) (m : Meaning) → Valid m → (sign_with (exact_tokens set)).Follow m []
exact_ready set = with_ready (exact_tokens set) (exact_alike set) (exact_lawful set)
