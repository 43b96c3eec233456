-- The code of a key, from its base, fill and rotation.
use Prim.Native.Nat.{ℕ, ◌+◌, ◌-◌, ◌*◌, ◌/◌, ◌%◌, ◌≤◌}
use mathlib.Core.Path.{◌≡◌, sym, ap, ◌∙◌}
use mathlib.Core.List.{List, [], ◌∷◌, ◌++◌}
use native.Mathlib.Numerals.{add-one}
use native.Mathlib.Omega.{arith}
use Rattle.format.specs.Numeral.{Range}
use Rattle.charset.specs.declared.Charset.TheVariants.{Fsw}
use Rattle.charset.specs.Bytes.{digit_byte}
use Rattle.charset.specs.Tokens.{base, turn, key_of, parts_of}
use Rattle.charset.proofs.Keys.{parts_of_key}
use Rattle.token.specs.Result.{done}
use Rattle.token.specs.Symbol.{any_symbol}
use Rattle.token.proofs.Results.{same_done}
use Rattle.symbol.specs.Codes.{code_of, code_text}
use Rattle.symbol.specs.CodeLaws.{Key, ValidKey, key_text, key_code, Spelled, KeyLaws}
use Rattle.symbol.proofs.Codes.{code_fine}
use Rattle.symbol.proofs.CodeLaws.{code_laws, read}

-- what is written of a base, and of fill and rotation as one number
abbrev spelled : ℕ × ℕ → List ℕ
spelled p = 83 ∷ ((base 0x100 0x38b).write p.0 ++ (turn 0x5f).write p.1)

spelled_parts : (b t : ℕ) → Range 0x100 0x38b b → t ≤ 95 → (any_symbol Fsw).write (key_of (b, t)) ≡ spelled (b, t)
spelled_parts b t h k =
    let n = (b - 0x100) * 96 + t in
    ap (any_symbol Fsw).write (add-one n) ∙ ap spelled (ap parts_of (sym (add-one n)) ∙ parts_of_key b t h.0 k)

module _ (k : Key) (v : ValidKey k) where
  abbrev turned : ℕ
  turned = k.fill * 16 + k.rotation

  code_is : key_code k ≡ key_of (k.base, turned)
  code_is = omega arith

  digits_are : spelled (k.base, turned) ≡ key_text k
  digits_are =
      let x : k.base % 256 / 16 ≡ k.base / 16 % 16 = omega arith in
      let y : k.base % 256 % 16 ≡ k.base % 16 = omega arith in
      let f : turned / 16 ≡ k.fill = omega (arith, v.rotation) in
      let r : turned % 16 ≡ k.rotation = omega (arith, v.rotation) in
      λ i. 83 ∷ digit_byte (k.base / 256) ∷ digit_byte (x i) ∷ digit_byte (y i) ∷ digit_byte (f i) ∷ digit_byte (r i) ∷ []

  key_written : code_text Fsw (key_code k) ≡ done (key_text k)
  key_written =
      let b = v.base in
      code_fine Fsw (key_code k) (omega (arith, b.0, b.1, v.fill, v.rotation))
      ∙ ap done (ap (any_symbol Fsw).write code_is ∙ spelled_parts k.base turned b (omega (arith, v.fill, v.rotation)) ∙ digits_are)

-- the key of a code
abbrev key_at : ℕ → Key
key_at n = record { base = 256 + (n - 1) / 96; fill = (n - 1) % 96 / 16; rotation = (n - 1) % 96 % 16 }

at_valid : (n : ℕ) → n ≤ 62592 → ValidKey (key_at n)
at_valid n h = record { base = (omega arith, omega arith); fill = omega arith; rotation = omega arith }

at_code : (n : ℕ) → 1 ≤ n → n ≡ key_code (key_at n)
at_code n h = omega arith

only : (text : List ℕ) (n : ℕ) → code_of Fsw text ≡ done n → 1 ≤ n → Spelled text n
only text n e h =
    let v = at_valid n (read Fsw text n e).0 in
    record {
      key = key_at n;
      valid = v;
      spells = same_done (sym ((code_laws Fsw).writes text n e) ∙ ap (code_text Fsw) (at_code n h) ∙ key_written (key_at n) v);
      codes = at_code n h;
    }

pub key_laws : KeyLaws
key_laws = record { writes = key_written; reads = λ k v. (code_laws Fsw).reads (key_code k) (key_text k) (key_written k v); only = only }
