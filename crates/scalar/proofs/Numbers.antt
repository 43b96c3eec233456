-- A number's character: F0, then 9D, then two bytes more.
use Prim.Native.Nat.{ℕ, ◌+◌, ◌-◌, ◌*◌, ◌≤◌}
use mathlib.Core.List.{List, [], ◌∷◌}
use mathlib.Core.Path.{◌≡◌, refl, sym, ap, ◌∙◌}
use native.Mathlib.Omega.{arith}
use Rattle.format.specs.Numeral.{Weights}
use Rattle.std.specs.Prelude.{Result as Answer, Ok}
use Rattle.token.specs.declared.refusal.Refusal.{Refusal}
use Rattle.token.specs.Token.{token_at}
use Rattle.token.proofs.Told.{Fails}
use Rattle.token.proofs.Digits.{First, Rest, numeral_told, head_fails, head_told, rest_told}
use Rattle.querygrammar.specs.Scalar.{shifted}
use Rattle.querygrammar.specs.Spelling.{query_number}
use Rattle.scalar.specs.Trails.{trail, trails}
use Rattle.scalar.proofs.Characters.{trailing, others_fail, others_say}

-- what is told of the last two bytes, r, and so of the whole
pub record Number (s : List ℕ) (at : ℕ) (r : Answer ℕ Refusal) : Type 0 where
  pub fails : Fails r → r ≡ token_at query_number s at
  pub least : (n : ℕ) → r ≡ Ok n → 2060 ≤ n
  pub value : (n : ℕ) → r ≡ Ok n → Ok (n - 1810) ≡ token_at query_number s at

module _ (s : List ℕ) (at a : ℕ) (t : Answer ℕ Refusal) (e : t ≡ token_at (shifted 0xf0 7 0 0) s at) (v : t ≡ Ok a) where
  weights : Weights 63 63 121343 (4096 ∷ 64 ∷ [])
  weights = (omega arith, omega arith, (omega arith, omega arith, omega arith))

  three_fail : (r : Answer ℕ Refusal) → r ≡ token_at (trails (4096 ∷ 64 ∷ []) 120844 121343) s (at + 1) → Fails r → r ≡ token_at query_number s at
  three_fail = others_fail 120594 250 749 0 refl refl (omega arith) s at a t e v 120844 121343 refl refl

  pub next_fails : (r : Answer ℕ Refusal) → r ≡ token_at (trail 29 29) s (at + 1) → Fails r → r ≡ token_at query_number s at
  next_fails r q h = three_fail r (head_fails trailing 4096 (64 ∷ []) 120844 121343 (omega arith) weights s (at + 1) r q h) h

  pub number : (b : ℕ) (u : Answer ℕ Refusal) → u ≡ token_at (trail 29 29) s (at + 1) → u ≡ Ok b → (r : Answer ℕ Refusal) → r ≡ token_at (trails (64 ∷ []) 2060 2559) s (at + 2) → Number s at r
  number b u x y r q =
      let f : First trail 4096 120844 121343 s (at + 1) b = head_told trailing 4096 (64 ∷ []) 120844 121343 (omega arith) weights s (at + 1) b u x y in
      let k : b ≡ 29 = omega (arith, f.told.valid.0, f.told.valid.1) in
      let j : at + 2 ≡ at + 1 + 1 = omega arith in
      let g : Rest trail 4096 (64 ∷ []) 120844 121343 s (at + 1) b r =
      rest_told trailing 4096 (64 ∷ []) 120844 121343 (omega arith) weights s (at + 1) b 2060 2559 r f (omega (arith, k)) (omega (arith, k)) (q ∙ ap (token_at (trails (64 ∷ []) 2060 2559) s) j) in
      record {
        fails = λ h. three_fail r (g.fails h) h;
        least = λ n z. (numeral_told trailing (64 ∷ []) 2060 2559 (omega arith) (omega arith, omega arith, omega arith) s (at + 2) n (sym q ∙ z)).valid.0;
        value = λ n z.
            let w : n - 1810 ≡ 0 * 262144 + (b * 4096 + n) - 120594 = omega (arith, k) in
            ap Ok w ∙ others_say 120594 250 749 0 refl refl (omega arith) s at a t e v 120844 121343 refl refl (Ok (b * 4096 + n)) (g.value n z) (b * 4096 + n) refl;
      }
