-- A character read byte by byte: its first byte, and the others. A function that reads one only cites these laws.
use Prim.Native.Nat.{ℕ, ◌+◌, ◌-◌, ◌*◌, ◌/◌, ◌%◌, ◌≤◌, min}
use mathlib.Core.List.{List, [], ◌∷◌}
use mathlib.Core.Path.{◌≡◌, refl, sym, ap, ◌∙◌}
use lib.ListN.{length}
use native.Mathlib.Omega.{arith}
use Rattle.format.specs.Format.{Format, sequence, mapped}
use Rattle.format.specs.Numeral.{Range}
use Rattle.format.specs.Located.{Located, found, wrong_at, short_here, locate, on_found}
use Rattle.format.proofs.Delimited.{Delimited}
use Rattle.format.proofs.At.{mapped_at}
use Rattle.std.specs.Prelude.{Result as Answer, Ok}
use Rattle.token.specs.declared.refusal.Refusal.{Refusal}
use Rattle.token.specs.Token.{told, token_at}
use Rattle.token.proofs.Told.{Fails, Told, first_fails, second_fails, both_told, second_told}
use Rattle.token.proofs.Digits.{OneByte, numeral_told}
use Rattle.querygrammar.specs.Scalar.{shifted, scalar}
use Rattle.querygrammar.proofs.Scalars.{shifted_strict}
use Rattle.scalar.specs.Trails.{trail, trails}

shifted_byte : (from top : ℕ) → OneByte top (shifted from top)
shifted_byte from top = record { strict = shifted_strict from top; range = λ lo hi. refl; size = λ lo hi v. refl }

pub trailing : OneByte 63 trail
trailing = shifted_byte 0x80 63

maps_go : {A B C : Type 0} (f : A → B) (g : B → C) (l : Located A) → on_found g (on_found f l) ≡ on_found (λ a. g (f a)) l
maps_go f g (found a i) = refl
maps_go f g (wrong_at p) = refl
maps_go f g short_here = refl

-- a format mapped twice
maps_at : {A B C : Type 0} (h : Format A) (f : A → B) (f' : B → A) (P : B → Type 0) (g : B → C) (g' : C → B) (Q : C → Type 0) (s : List ℕ) (at : ℕ)
    → locate (mapped (mapped h f f' P) g g' Q) s at ≡ locate (mapped h (λ a. g (f a)) (λ c. f' (g' c)) Q) s at
maps_at h f f' P g g' Q s at =
    mapped_at (mapped h f f' P) g g' Q s at ∙ ap (on_found g) (mapped_at h f f' P s at) ∙ maps_go f g (locate h s at) ∙ sym (mapped_at h (λ a. g (f a)) (λ c. f' (g' c)) Q s at)

-- characters that all begin with the byte 0xf0 + d
module _ (from lo hi d : ℕ) (x : (from + lo) / 262144 ≡ d) (y : (from + hi) / 262144 ≡ d) (k : d ≤ 7) (s : List ℕ) (at : ℕ) where
  abbrev lead : Format ℕ
  lead = shifted 0xf0 7 d d

  abbrev others : ℕ → Format ℕ
  others a = trails (4096 ∷ 64 ∷ []) (from + lo - a * 262144) (min 262143 (from + hi - a * 262144))

  abbrev to : ℕ × ℕ → ℕ
  to q = q.0 * 262144 + q.1 - from

  abbrev of : ℕ → ℕ × ℕ
  of n = ((from + n) / 262144, (from + n) % 262144)

  abbrev whole : ℕ → ℕ → Format ℕ
  whole least most = mapped (sequence (shifted 0xf0 7 least most) others) to of (Range lo hi)

  scalar_is : token_at (whole d d) s at ≡ token_at (scalar from lo hi) s at
  unfolding token_at
  scalar_is =
      ap (told (length s))
      ((λ i. locate (whole (sym x i) (sym y i)) s at)
      ∙ sym (maps_at (sequence (shifted 0xf0 7 ((from + lo) / 262144) ((from + hi) / 262144)) others) (λ q. q.0 * 262144 + q.1) (λ n. (n / 262144, n % 262144)) (Range (from + lo) (from + hi))
      (λ c. c - from) (λ n. from + n) (Range lo hi) s at))

  delimited : Delimited 1 lead
  delimited = (shifted_strict 0xf0 7 d d (omega arith) k).delimited

  pub lead_fails : (r : Answer ℕ Refusal) → r ≡ token_at lead s at → Fails r → r ≡ token_at (scalar from lo hi) s at
  lead_fails r e h = first_fails 1 1 lead others to of (Range lo hi) delimited s at r e h ∙ scalar_is

  -- where the first byte is told, and r of the others
  module _ (a : ℕ) (t : Answer ℕ Refusal) (e : t ≡ token_at lead s at) (v : t ≡ Ok a) (l h : ℕ) (p : l ≡ from + lo - d * 262144) (q : h ≡ min 262143 (from + hi - d * 262144))
      (r : Answer ℕ Refusal) (z : r ≡ token_at (trails (4096 ∷ 64 ∷ []) l h) s (at + 1)) where
    lead-told : Told 1 lead s at d
    lead-told =
        let f : Told 1 lead s at a = numeral_told (shifted_byte 0xf0 7) [] d d (omega arith) k s at a (sym e ∙ v) in
        let j : a ≡ d = omega (arith, f.valid.0, f.valid.1) in
        rw j at f

    others-told : r ≡ token_at (others d) s (at + 1)
    others-told = rw (p, q) at z

    pub others_fail : Fails r → r ≡ token_at (scalar from lo hi) s at
    others_fail f = second_fails 1 1 lead others to of (Range lo hi) delimited s at d r lead-told others-told f ∙ scalar_is

    pub others_say : (b : ℕ) → r ≡ Ok b → Ok (d * 262144 + b - from) ≡ token_at (scalar from lo hi) s at
    others_say b w = both_told 1 1 lead others to of (Range lo hi) delimited s at d b lead-told (sym others-told ∙ w) ∙ scalar_is

    -- where they say the value
    pub others_all : from ≡ d * 262144 → r ≡ token_at (scalar from lo hi) s at
    others_all w = second_told 1 1 lead others to of (Range lo hi) delimited s at d r (λ b. omega arith) lead-told others-told ∙ scalar_is
