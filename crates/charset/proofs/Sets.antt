-- What the grammar of a sign and its law of places ask of a character set, and that both have it.
use Prim.Native.Nat.{ℕ, zero, suc, ◌+◌, ◌-◌, ◌≤◌, ◌<◌}
use mathlib.Core.List.{List, [], ◌∷◌, ◌++◌}
use mathlib.Core.Path.{◌≡◌, refl, ap}
use native.Mathlib.Omega.{arith}
use Rattle.format.specs.Format.{value, other, wrong, Format, first, second, unit, atomic}
use Rattle.format.specs.Numeral.{Range}
use Rattle.format.proofs.Exact.{Exact}
use Rattle.format.proofs.Delimited.{Fixed, unit_alone, mapped_wrong}
use Rattle.format.proofs.Unit.{unit_below, unit_above}
use Rattle.charset.specs.declared.Charset.{Charset}
use Rattle.charset.specs.declared.Charset.TheVariants.{Fsw, Swu}
use Rattle.charset.specs.Bytes.{byte_of, marker_of, marker_byte, scalar_of, utf8}
use Rattle.charset.specs.Tokens.{Tokens, fsw_with, fsw, swu, tokens, key, null_or_key, fsw_number, last_code}
use Rattle.charset.proofs.Coding.{marker_of_byte, scalar_utf8, letter_exact, character_exact}
use Rattle.charset.proofs.Units.{letter_strict, character_strict, after_other, after_delimited, after_exact}
use Rattle.charset.proofs.Keys.{number_strict, number_delimited, key_strict, null_or_key_strict, null_or_key_size}

pub record LawfulTokens (t : Tokens) : Type 0 where
  pub marker : (lo hi : ℕ) → lo ≤ hi → hi ≤ 4 → Fixed t.unit t.marker_size (t.marker lo hi)
  pub range : (lo hi m : ℕ) → (t.marker lo hi).Valid m → Range lo hi m
  -- a marker is one unit
  pub alone : (lo hi : ℕ) (text rest : List ℕ) → (t.marker lo hi).read text ≡ wrong rest → ⊥
  pub symbol : (top : ℕ) → 0x100 ≤ top → top ≤ 0x38b → Fixed t.unit t.symbol_size (t.symbol top)
  pub symbol_or_null : (top : ℕ) → 0x100 ≤ top → top ≤ 0x38b → Fixed t.unit t.symbol_size (t.symbol_or_null top)
  pub number : Fixed t.unit t.number_size t.number
  pub second : Fixed t.unit t.second_size t.second
  -- a marker of a signbox begins neither a prefix nor a symbol
  pub no_prefix_lem : (m : ℕ) (rest : List ℕ) → Range 1 4 m → (t.marker 0 0).read ((t.marker 1 4).write m ++ rest) ≡ other
  pub no_symbol : (top m : ℕ) (rest : List ℕ) → Range 1 4 m → (t.symbol_or_null top).read ((t.marker 1 4).write m ++ rest) ≡ other

marker_below : (m : ℕ) → Range 1 4 m → marker_byte m < 83
marker_below zero ok = absurd (omega (arith, ok.0))
marker_below (suc zero) ok = omega arith
marker_below (suc (suc zero)) ok = omega arith
marker_below (suc (suc (suc zero))) ok = omega arith
marker_below (suc (suc (suc (suc zero)))) ok = omega arith
marker_below (suc (suc (suc (suc (suc m))))) ok = absurd (omega (arith, ok.1))

-- FSW with numbers of three bytes
with_lawful : (number : Format ℕ) → Fixed 1 3 number → LawfulTokens (fsw_with number)
with_lawful number n = record {
  marker = λ lo hi h k. record { delimited = (letter_strict lo hi h k).delimited; size = λ v ok. refl };
  range = λ lo hi m ok. ok;
  alone = unit_alone 1 (byte_of marker_of) (λ m. marker_byte m ∷ []);
  symbol = λ top lo hi. record { delimited = after_delimited 83 (key top) (key_strict top lo hi).delimited; size = λ v ok. refl };
  symbol_or_null = λ top lo hi.
      record { delimited = after_delimited 83 (null_or_key top) (null_or_key_strict top lo hi).delimited; size = λ v ok. ap suc (null_or_key_size top v) };
  number = n;
  second = record { delimited = after_delimited 120 number n.delimited; size = λ v ok. ap suc (n.size v ok) };
  no_prefix_lem = λ m rest ok.
      let e = marker_of_byte m ok.1 in
      unit_above 1 (byte_of marker_of) (λ m. marker_byte m ∷ []) 0 0 (marker_byte m ∷ []) rest refl (omega arith) (rw e ok.0);
  no_symbol = λ top m rest ok.
      after_other 83 (null_or_key top) (marker_byte m ∷ rest)
      (unit_below 1 (byte_of λ a. a) (λ a. a ∷ []) 83 83 (marker_byte m ∷ []) rest refl (marker_below m ok));
}

pub fsw_lawful : LawfulTokens fsw
fsw_lawful = with_lawful (atomic fsw_number) (record { delimited = number_delimited; size = λ v ok. refl })

pub swu_lawful : LawfulTokens swu
swu_lawful = record {
  marker = λ lo hi h k. record { delimited = (character_strict 0x1d800 lo hi (omega arith) h (omega arith)).delimited; size = λ v ok. refl };
  range = λ lo hi m ok. ok;
  alone = λ lo hi text rest e.
      unit_alone 4 scalar_of utf8 (0x1d800 + lo) (0x1d800 + hi) text rest
      (mapped_wrong (λ c. c - 0x1d800) rest ((unit 4 scalar_of utf8 (0x1d800 + lo) (0x1d800 + hi)).read text) e);
  symbol = λ top lo hi.
      record { delimited = (character_strict 0x40000 1 (last_code top) (omega arith) (omega arith) (omega arith)).delimited; size = λ v ok. refl };
  symbol_or_null = λ top lo hi.
      record { delimited = (character_strict 0x40000 0 (last_code top) (omega arith) (omega arith) (omega arith)).delimited; size = λ v ok. refl };
  number = record { delimited = (character_strict (0x1d80c - 250) 250 749 (omega arith) (omega arith) (omega arith)).delimited; size = λ v ok. refl };
  second = record { delimited = (character_strict (0x1d80c - 250) 250 749 (omega arith) (omega arith) (omega arith)).delimited; size = λ v ok. refl };
  no_prefix_lem = λ m rest ok.
      let e : scalar_of (utf8 (0x1d800 + m)) ≡ 0x1d800 + m = scalar_utf8 (0x1d800 + m) (omega (arith, ok.1)) in
      ap (λ r. first r λ a rest. value (a - 0x1d800) rest)
      (unit_above 4 scalar_of utf8 (0x1d800 + 0) (0x1d800 + 0) (utf8 (0x1d800 + m)) rest refl (rw e (omega arith)) (rw e (omega (arith, ok.0))));
  no_symbol = λ top m rest ok.
      let e : scalar_of (utf8 (0x1d800 + m)) ≡ 0x1d800 + m = scalar_utf8 (0x1d800 + m) (omega (arith, ok.1)) in
      ap (λ r. first r λ a rest. value (a - 0x40000) rest)
      (unit_below 4 scalar_of utf8 (0x40000 + 0) (0x40000 + last_code top) (utf8 (0x1d800 + m)) rest refl (rw e (omega (arith, ok.1))));
}

pub lawful : (set : Charset) → LawfulTokens (tokens set)
lawful Fsw = fsw_lawful
lawful Swu = swu_lawful

-- the same tokens, with a wrong number told at the byte where it goes wrong
abbrev pub exact_tokens : Charset → Tokens
exact_tokens Fsw = fsw_with fsw_number
exact_tokens Swu = swu

pub exact_lawful : (set : Charset) → LawfulTokens (exact_tokens set)
exact_lawful Fsw = with_lawful fsw_number (record { delimited = number_strict.delimited; size = λ v ok. refl })
exact_lawful Swu = swu_lawful

pub record ExactTokens (t : Tokens) : Type 0 where
  pub marker : (lo hi : ℕ) → lo ≤ hi → hi ≤ 4 → Exact t.unit (t.marker lo hi)
  pub symbol : (top : ℕ) → 0x100 ≤ top → top ≤ 0x38b → Exact t.unit (t.symbol top)
  pub symbol_or_null : (top : ℕ) → 0x100 ≤ top → top ≤ 0x38b → Exact t.unit (t.symbol_or_null top)
  pub number : Exact t.unit t.number
  pub second : Exact t.unit t.second

fsw_exact : ExactTokens (fsw_with fsw_number)
fsw_exact = record {
  marker = letter_exact;
  symbol = λ top lo hi. after_exact 83 (key top) (key_strict top lo hi).exact;
  symbol_or_null = λ top lo hi. after_exact 83 (null_or_key top) (null_or_key_strict top lo hi).exact;
  number = number_strict.exact;
  second = after_exact 120 fsw_number number_strict.exact;
}

swu_exact : ExactTokens swu
swu_exact = record {
  marker = λ lo hi h k. character_exact 0x1d800 lo hi (omega arith) h (omega arith);
  symbol = λ top lo hi. character_exact 0x40000 1 (last_code top) (omega arith) (omega arith) (omega arith);
  symbol_or_null = λ top lo hi. character_exact 0x40000 0 (last_code top) (omega arith) (omega arith) (omega arith);
  number = character_exact (0x1d80c - 250) 250 749 (omega arith) (omega arith) (omega arith);
  second = character_exact (0x1d80c - 250) 250 749 (omega arith) (omega arith) (omega arith);
}

pub exact : (set : Charset) → ExactTokens (exact_tokens set)
exact Fsw = fsw_exact
exact Swu = swu_exact
