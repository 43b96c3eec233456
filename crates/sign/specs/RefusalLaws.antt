-- Document 01, "Refusal numbers": which texts `read` refuses, with which number and place, exactly. The places in FSW are those of document 02, Q-5.
use Rattle.std.specs.Prelude.{◌≡◌, ℕ, ◌<◌, ◌≤◌, ◌↔◌, List, length}
use Rattle.format.specs.Places.{Refused, EndsShort, Unfinished}
use Rattle.format.specs.Numbers.{Place}
use Rattle.charset.specs.declared.Charset.{Charset}
use Rattle.charset.specs.declared.Charset.TheVariants.{Fsw, Swu}
use Rattle.grammar.specs.Sign.{Meaning, Valid, sign, sign_text}
use Rattle.grammar.specs.SignLaws.{SignNumber}
use Rattle.token.specs.Refusal.{text_wrong, text_short, prefix_long, signbox_long}
use Rattle.sign.specs.Reading.{Reading, packed, reading_in}

-- the answer has this number and this place
abbrev pub Answers : Reading → ℕ → ℕ → Type 0
Answers r number place = (r.number ≡ number) × (r.place ≡ place)

-- the text is well-formed and says m
abbrev pub Says : Charset → List ℕ → Meaning → Type 0
Says set text m = Valid m × (text ≡ sign_text set m)

-- the text is wrong at p: in FSW byte by byte, a wrong coordinate number at its first; in SWU by groups of four bytes
abbrev pub WrongAt : Charset → List ℕ → ℕ → Type 0
WrongAt Fsw text p = Place (sign Fsw) SignNumber text p
WrongAt Swu text p = Refused 4 (sign Swu) text p

-- the text stops early: nothing in it is wrong, in SWU no whole group, and it is not well-formed
abbrev pub StopsEarly : Charset → List ℕ → Type 0
StopsEarly Fsw text = Unfinished (sign Fsw) text
StopsEarly Swu text = EndsShort 4 (sign Swu) text

pub record RefusalLaws (set : Charset) : Type 0 where
  -- 1 and 2
  pub wrong : (text : List ℕ) (p : ℕ) → Answers (reading_in set text) text_wrong p ↔ WrongAt set text p
  pub short : (text : List ℕ) (p : ℕ) → Answers (reading_in set text) text_short p ↔ (StopsEarly set text × (p ≡ length text))
  -- 3 and 4, of a text that is well-formed
  pub refuses_prefix : (text : List ℕ) (p : ℕ) → Answers (reading_in set text) prefix_long p ↔ ((m : Meaning) × Says set text m × (32 < length m.prefix) × (p ≡ 0))
  pub refuses_signbox : (text : List ℕ) (p : ℕ)
      → Answers (reading_in set text) signbox_long p ↔ ((m : Meaning) × Says set text m × (length m.prefix ≤ 32) × (64 < length m.symbols) × (p ≡ 0))
  -- done exactly where the text is a sign within the limits, and the answer is then that sign
  pub accepted : (text : List ℕ) → ((reading_in set text).number ≡ 0) ↔ ((m : Meaning) × Says set text m × (length m.prefix ≤ 32) × (length m.symbols ≤ 64))
  pub reads : (text : List ℕ) (m : Meaning) → Says set text m → length m.prefix ≤ 32 → length m.symbols ≤ 64
      → reading_in set text ≡ record { number = 0; place = 0; sign = packed set m }
  -- no other number is given
  pub numbers : (text : List ℕ) → (reading_in set text).number ≤ 4
