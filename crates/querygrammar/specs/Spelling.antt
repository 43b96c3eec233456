-- How each edition spells the items of a query (document 01, "A query"; draft -10, section 1.5, and document 02, Q-9).
use Rattle.std.specs.Prelude.{ℕ, zero, suc, ◌-◌, ◌/◌, ◌%◌, ◌≡◌, [], Bool, true, false, ◌⊎◌}
use Prim.Native.Char.{code}
use Rattle.std.proofs.Common.{inl, inr}
use Rattle.std.proofs.Math.Option.{Option, none, some}
use Rattle.format.specs.Format.{Format, value, sequence, mapped, either, optional}
use Rattle.charset.specs.declared.Charset.TheVariants.{Fsw, Swu}
use Rattle.charset.specs.Bytes.{byte, digit, after}
use Rattle.charset.specs.Tokens.{fsw, base, null, parts_of, last_code, last_punctuation}
use Rattle.querygrammar.specs.declared.Edition.{Edition}
use Rattle.querygrammar.specs.declared.Edition.TheVariants.{First, Second}
use Rattle.querygrammar.specs.Scalar.{scalar}

-- WHAT IS ASKED FOR: a symbol key with its fill and its rotation given or open, a range of bases, or null
pub data Item : Type 0 where
  key_item : ℕ → Option ℕ → Option ℕ → Item
  range_item : ℕ → ℕ → Item
  null_item : Item

-- nothing is written, for one value
abbrev pub nothing : {A : Type 0} → A → Format A
nothing a = record { read = λ text. value a text; write = λ v. []; Valid = λ v. v ≡ a; Follow = λ v rest. Unit }

-- FSW

-- a base of 100 to 38b; a digit up to hi, or u
abbrev pub query_base : Format ℕ
query_base = base 0x100 last_punctuation

abbrev pub or_any : ℕ → Format (ℕ ⊎ ℕ)
or_any hi = either (digit 0 hi) (byte (code "u"))

-- after the S: base, fill or u, rotation or u
abbrev pub KeyText : Type 0
KeyText = ℕ × ((ℕ ⊎ ℕ) × (ℕ ⊎ ℕ))

abbrev pub open_digits : Format ((ℕ ⊎ ℕ) × (ℕ ⊎ ℕ))
open_digits = sequence (or_any 5) λ f. or_any 15

abbrev pub key_tail : Format KeyText
key_tail = sequence query_base λ b. open_digits

-- R, base, t, base
abbrev pub range_end : Format ℕ
range_end = after (code "t") query_base

abbrev pub range_tail : Format (ℕ × ℕ)
range_tail = sequence query_base λ b. range_end

abbrev pub range_text : Format (ℕ × ℕ)
range_text = after (code "R") range_tail

-- a symbol: a key alone; or null, which is 00000 after the S, or a key
abbrev pub key_in : ℕ ⊎ KeyText → KeyText
key_in (inl n) = (0x100, (inl 0, inl 0))
key_in (inr k) = k

abbrev pub ValidKey : ℕ ⊎ KeyText → Type 0
ValidKey (inl n) = ⊥
ValidKey (inr k) = key_tail.Valid k

abbrev pub key_only : Format (ℕ ⊎ KeyText)
key_only = mapped key_tail inr key_in ValidKey

abbrev pub null_or_key : Format (ℕ ⊎ KeyText)
null_or_key = either null key_tail

abbrev pub FswText : Type 0
FswText = (ℕ ⊎ KeyText) ⊎ (ℕ × ℕ)

abbrev pub fsw_item : Format (ℕ ⊎ KeyText) → Format FswText
fsw_item symbol = either (after (code "S") symbol) range_text

-- u is an open digit
abbrev pub open_of : ℕ ⊎ ℕ → Option ℕ
open_of (inl d) = some d
open_of (inr u) = none

abbrev pub fsw_meaning : FswText → Item
fsw_meaning (inl (inl n)) = null_item
fsw_meaning (inl (inr k)) = key_item k.0 (open_of k.1.0) (open_of k.1.1)
fsw_meaning (inr r) = range_item r.0 r.1

-- SWU

-- a symbol's character, then f if any fill will do, then r if any rotation will; null, which is code 0, has neither
abbrev pub marks : ℕ → Format (Option ℕ × Option ℕ)
marks zero = nothing (none, none)
marks (suc c) = sequence (optional (byte (code "f"))) λ f. optional (byte (code "r"))

abbrev pub swu_symbol : ℕ → Format (ℕ × (Option ℕ × Option ℕ))
swu_symbol least = sequence (scalar 0x40000 least (last_code last_punctuation)) marks

-- R, and two characters of which only the bases count
abbrev pub swu_base : Format ℕ
swu_base = scalar 0x40000 1 (last_code last_punctuation)

abbrev pub swu_ends : Format (ℕ × ℕ)
swu_ends = sequence swu_base λ a. swu_base

abbrev pub swu_range : Format (ℕ × ℕ)
swu_range = after (code "R") swu_ends

abbrev pub SwuText : Type 0
SwuText = (ℕ × (Option ℕ × Option ℕ)) ⊎ (ℕ × ℕ)

abbrev pub swu_item : ℕ → Format SwuText
swu_item least = either (swu_symbol least) swu_range

-- the character's own fill or rotation, unless its mark stands
abbrev pub unless : Option ℕ → ℕ → Option ℕ
unless none digit = some digit
unless (some mark) digit = none

abbrev pub swu_key : ℕ × ℕ → Option ℕ × Option ℕ → Item
swu_key parts m = key_item parts.0 (unless m.0 (parts.1 / 16)) (unless m.1 (parts.1 % 16))

abbrev pub swu_meaning : SwuText → Item
swu_meaning (inl (zero, m)) = null_item
swu_meaning (inl (suc c, m)) = swu_key (parts_of (suc c)) m
swu_meaning (inr r) = range_item (parts_of r.0).0 (parts_of r.1).0

abbrev pub query_number : Format ℕ
query_number = scalar (0x1d80c - 250) 250 749

-- THE SPELLINGS
pub record Spelling : Type 1 where
  -- what the text of one item says, and what that means
  pub Says : Type 0
  pub means : Says → Item
  pub prefix_item : Format Says
  pub signbox_item : Format Says
  -- whether items may be joined as alternatives
  pub joins : Bool
  -- a coordinate: its first number, and the second with what stands between them
  pub number : Format ℕ
  pub second : Format ℕ

abbrev pub first : Spelling
first = record {
  Says = FswText;
  means = fsw_meaning;
  prefix_item = fsw_item key_only;
  signbox_item = fsw_item key_only;
  joins = false;
  number = fsw.number;
  second = fsw.second;
}

-- null may be sought in the prefix
abbrev pub second_fsw : Spelling
second_fsw = record {
  Says = FswText;
  means = fsw_meaning;
  prefix_item = fsw_item null_or_key;
  signbox_item = fsw_item key_only;
  joins = true;
  number = fsw.number;
  second = fsw.second;
}

abbrev pub second_swu : Spelling
second_swu = record {
  Says = SwuText;
  means = swu_meaning;
  prefix_item = swu_item 0;
  signbox_item = swu_item 1;
  joins = true;
  number = query_number;
  second = query_number;
}

abbrev pub spelling : Edition → Spelling
spelling First = first
spelling (Second Fsw) = second_fsw
spelling (Second Swu) = second_swu
