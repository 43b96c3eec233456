-- What reading a whole text answers, and what each answer means.
use Rattle.std.specs.Prelude.{ℕ, ◌+◌, ◌-◌, ◌*◌, ◌≤◌, ◌<◌, ◌≡◌, List, ◌++◌, ◌↔◌, length, take}
use Rattle.format.specs.Format.{Answer, value, other, wrong, short, Format, sequence, mapped, end}

-- a number of whole units
abbrev pub Whole : ℕ → List ℕ → Type 0
Whole w text = (n : ℕ) × (length text ≡ n * w)

-- well-formed: what the writer writes for some value
pub record Formed {A : Type 0} (f : Format A) (text : List ℕ) : Type 0 where
  pub says : A
  pub valid : f.Valid says
  pub is : text ≡ f.write says

-- a beginning of a well-formed text
pub record Begins {A : Type 0} (f : Format A) (text : List ℕ) : Type 0 where
  pub says : A
  pub valid : f.Valid says
  pub more : List ℕ
  pub is : f.write says ≡ text ++ more

-- Reading a whole text.

-- the format, and then the end of the text
abbrev pub whole : {A : Type 0} → ℕ → Format A → Format A
whole w f = mapped (sequence f (λ a. end w)) (λ p. p.0) (λ a. (a, tt)) f.Valid

-- a value; refused as wrong at a place; or refused as unfinished
pub data Outcome (A : Type 0) : Type 0 where
  fine : A → Outcome A
  refused : ℕ → Outcome A
  ends_short : Outcome A

abbrev pub outcome : {A : Type 0} → List ℕ → Answer A → Outcome A
outcome text (value v rest) = fine v
outcome text other = refused 0
outcome text (wrong rest) = refused (length text - length rest)
outcome text short = ends_short

abbrev pub reading : {A : Type 0} → ℕ → Format A → List ℕ → Outcome A
reading w f text = outcome text ((whole w f).read text)

-- the place p: whole units up to there begin a well-formed text, and with one unit more they begin none
pub record Refused {A : Type 0} (w : ℕ) (f : Format A) (text : List ℕ) (p : ℕ) : Type 0 where
  pub inside : p + w ≤ length text
  pub unit : ℕ
  pub multiple : p ≡ unit * w
  pub begins : Begins f (take p text)
  pub never : Begins f (take (p + w) text) → ⊥

-- all whole units begin a well-formed text, and the text is not well-formed
pub record EndsShort {A : Type 0} (w : ℕ) (f : Format A) (text : List ℕ) : Type 0 where
  pub units : ℕ
  pub inside : units * w ≤ length text
  pub less : length text < units * w + w
  pub begins : Begins f (take (units * w) text)
  pub unformed : Formed f text → ⊥

-- THE LAW OF PLACES: what each outcome means
abbrev pub Means : {A : Type 0} → ℕ → Format A → List ℕ → Outcome A → Type 0
Means w f text (fine v) = f.Valid v × (text ≡ f.write v)
Means w f text (refused p) = Refused w f text p
Means w f text ends_short = EndsShort w f text

-- The same where a unit is a byte, in the words of document 01: the place of 1 is the length of the longest beginning
-- that some well-formed text shares, and a text that is such a beginning but not well-formed is 2.
pub record FirstWrong {A : Type 0} (f : Format A) (text : List ℕ) (p : ℕ) : Type 0 where
  pub begins : Begins f (take p text)
  pub never : Begins f (take (p + 1) text) → ⊥

abbrev pub Unfinished : {A : Type 0} → Format A → List ℕ → Type 0
Unfinished f text = Begins f text × (Formed f text → ⊥)

pub record ByBytes {A : Type 0} (f : Format A) : Type 0 where
  pub wrong : (text : List ℕ) (p : ℕ) → (reading 1 f text ≡ refused p) ↔ FirstWrong f text p
  pub short : (text : List ℕ) → (reading 1 f text ≡ ends_short) ↔ Unfinished f text
