-- The bytes at an offset are those of a value: single bytes and digits, one token after another, and the tokens of FSW.
use Rattle.std.proofs.Common.{◌≡◌, ℕ, ◌+◌, ◌<◌, ◌≤◌, List, [], ◌∷◌, ◌++◌, length, get_or, take, drop, sym, refl, ap, ◌∙◌, subst, arith, drop-cons, drop-drop, take-add}
use Rattle.format.specs.Format.{Format, sequence}
use Rattle.charset.specs.Bytes.{after}
use Rattle.charset.specs.Tokens.{Tokens, fsw}
use Rattle.grammar.specs.Sign.{point, placed}
use Rattle.std.specs.Prelude.{Option, None, Some}
use Rattle.part.specs.declared.reading.Placed.{Placed}
use Rattle.part.specs.Placed.{of_placed}
use Rattle.part.specs.Inner.{Spelled, Sure, SureAfter, parts}

-- finding nothing says nothing
pub nothing_sure : {n : ℕ} {A : Type 0} {f : Format A} {s : List ℕ} {at : ℕ} → Sure n f s at None
nothing_sure = record { is = λ v e. absurd (cc e) }

pub some_sure : {A : Type 0} (n : ℕ) (f : Format A) (s : List ℕ) (at : ℕ) (v : A) → Spelled n f s at v → Sure n f s at (Some v)
some_sure n f s at v p = record { is = λ w e. let k : v ≡ w = cc in subst (λ w. Spelled n f s at w) k p }

module _ (s : List ℕ) where
  byte_at : (at b : ℕ) → at < length s → get_or s at 0 ≡ b → take 1 (drop at s) ≡ b ∷ []
  byte_at at b h e = ap (take 1) (drop-cons s at 0 h) ∙ ap (λ k. k ∷ []) e

  -- bytes, and those at the next offset
  bytes_then : (n m at next : ℕ) (x y : List ℕ) → next ≡ at + n → take n (drop at s) ≡ x → take m (drop next s) ≡ y → take (n + m) (drop at s) ≡ x ++ y
  bytes_then n m at next x y e p q =
      let r : take m (drop n (drop at s)) ≡ y = ap (take m) (drop-drop n at s ∙ ap (λ k. drop k s) (sym e)) ∙ q in
      take-add n m (drop at s) ∙ λ i. p i ++ r i

  spelled_then : {A B : Type 0} (n m : ℕ) (f : Format A) (g : A → Format B) (at : ℕ) (a : A) (b : B)
      → Spelled n f s at a → Spelled m (g a) s (at + n) b → Spelled (n + m) (sequence f g) s at (a, b)
  spelled_then n m f g at a b p q = record {
    valid = (p.valid, q.valid);
    bytes = bytes_then n m at (at + n) (f.write a) ((g a).write b) refl p.bytes q.bytes;
  }

  spelled_after : {A : Type 0} (n b : ℕ) (f : Format A) (at next : ℕ) (v : A) → next ≡ at + 1 → at < length s → get_or s at 0 ≡ b
      → Spelled n f s next v → Spelled (1 + n) (after b f) s at v
  spelled_after n b f at next v e h k p = record {
    valid = p.valid;
    bytes = bytes_then 1 n at next (b ∷ []) (f.write v) e (byte_at at b h k) p.bytes;
  }

  pub second_sure : (at : ℕ) (r : Option ℕ) → at + 4 ≤ length s → get_or s at 0 ≡ 120 → Sure 3 fsw.number s (at + 1) r → Sure 4 fsw.second s at r
  second_sure at r h e p = record { is = λ v q. spelled_after 3 120 fsw.number at (at + 1) v refl (omega arith) e (p.is v q) }

  -- a coordinate, and a value with the coordinate after it, in either set
  module _ (t : Tokens) where
    abbrev pointSize : ℕ
    pointSize = t.number_size + t.second_size

    pub point_sure : (at value x y : ℕ) → Spelled t.number_size t.number s at x → Spelled t.second_size t.second s (at + t.number_size) y
        → SureAfter t s at value (Some (record { value = value; x = x; y = y }))
    point_sure at value x y p q =
        let j : Spelled pointSize (point t) s at (x, y) = spelled_then t.number_size t.second_size t.number (λ n. t.second) at x y p q in
        record { is = λ k e. let same : record { value = value; x = x; y = y } ≡ k = cc in subst (λ k. (k.value ≡ value) × Spelled pointSize (point t) s at (k.x, k.y)) same (refl, j) }

    pub placed_sure : (n : ℕ) (f : Format ℕ) (at value : ℕ) (r : Option Placed) → Spelled n f s at value → SureAfter t s (at + n) value r
        → Sure (n + pointSize) (placed t f) s at (parts r)
    placed_sure n f at value None p q = nothing_sure
    placed_sure n f at value (Some k) p q =
        let j = q.is k refl in
        some_sure (n + pointSize) (placed t f) s at (of_placed k)
        (spelled_then n pointSize f (λ _. point t) at k.value (k.x, k.y) (subst (λ v. Spelled n f s at v) (sym j.0) p) j.1)
