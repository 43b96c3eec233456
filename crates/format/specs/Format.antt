-- Formats: said once, a format has a reader, a writer, the values that it can say, and what may follow each.
use Rattle.std.specs.Prelude.{ℕ, zero, suc, ◌≤◌, ◌≡◌, List, [], ◌∷◌, ◌++◌, Bool, true, false, ◌&&◌, ◌⊎◌, ltb, length, take, drop}
use Rattle.std.proofs.Common.{inl, inr}
use Rattle.std.proofs.Math.Option.{Option, none, some}

abbrev pub choose {ℓ} : {A : Type ℓ} → Bool → A → A → A
choose true a b = a
choose false a b = b

-- What a reader says of a text: a value and what is left; that the first unit is none that it begins with;
-- what is left from the first unit that is not allowed; or that the text ends too soon.
pub data Answer (A : Type 0) : Type 0 where
  value : A → List ℕ → Answer A
  other : Answer A
  wrong : List ℕ → Answer A
  short : Answer A

pub record Format (A : Type 0) : Type 1 where
  pub read : List ℕ → Answer A
  pub write : A → List ℕ
  pub Valid : A → Type 0
  pub Follow : A → List ℕ → Type 0

-- what is read second, after what was read first; a unit that cannot begin the second is wrong there
abbrev pub second : {B C : Type 0} → (B → C) → List ℕ → Answer B → Answer C
second c rest (value b left) = value (c b) left
second c rest other = wrong rest
second c rest (wrong left) = wrong left
second c rest short = short

abbrev pub first : {A C : Type 0} → Answer A → (A → List ℕ → Answer C) → Answer C
first (value a rest) k = k a rest
first other k = other
first (wrong rest) k = wrong rest
first short k = short

-- nothing more, where the text ends or goes on with what cannot begin the next
abbrev pub stop : {C : Type 0} → C → List ℕ → Answer C
stop c [] = value c []
stop c (b ∷ text) = short

abbrev pub maybe : {A C : Type 0} → C → List ℕ → Answer A → (A → List ℕ → Answer C) → Answer C
maybe c text (value a rest) k = k a rest
maybe c text other k = value c text
maybe c text (wrong rest) k = wrong rest
maybe c text short k = stop c text

-- a text at which an optional part is absent
abbrev pub Absent : {A : Type 0} → List ℕ → Answer A → Type 0
Absent text (value a rest) = ⊥
Absent text other = Unit
Absent text (wrong rest) = ⊥
Absent [] short = Unit
Absent (b ∷ text) short = ⊥

abbrev pub or_else : {A B : Type 0} → Answer A → Answer B → Answer (A ⊎ B)
or_else (value a rest) r = value (inl a) rest
or_else other (value b rest) = value (inr b) rest
or_else other other = other
or_else other (wrong rest) = wrong rest
or_else other short = short
or_else (wrong rest) r = wrong rest
or_else short r = short

-- a value of lo to hi
abbrev pub within : ℕ → ℕ → ℕ → List ℕ → Answer ℕ
within lo hi v rest = choose (ltb v lo) other (choose (ltb hi v) other (value v rest))

-- one unit of w bytes that stands for a number of lo to hi
abbrev pub unit : ℕ → (List ℕ → ℕ) → (ℕ → List ℕ) → ℕ → ℕ → Format ℕ
unit w of to lo hi = record {
  read = λ text. choose (ltb (length text) w) short (within lo hi (of (take w text)) (drop w text));
  write = to;
  Valid = λ v. (lo ≤ v) × (v ≤ hi);
  Follow = λ v rest. Unit;
}

-- one format and then another, which may depend on the first one's value
abbrev pub sequence : {A B : Type 0} → Format A → (A → Format B) → Format (A × B)
sequence f g = record {
  read = λ text. first (f.read text) λ a rest. second (λ b. (a, b)) rest ((g a).read rest);
  write = λ p. f.write p.0 ++ (g p.0).write p.1;
  Valid = λ p. f.Valid p.0 × (g p.0).Valid p.1;
  Follow = λ p rest. (g p.0).Follow p.1 rest × f.Follow p.0 ((g p.0).write p.1 ++ rest);
}

-- the same texts under other values
abbrev pub mapped : {A B : Type 0} → Format A → (A → B) → (B → A) → (B → Type 0) → Format B
mapped f to from P = record {
  read = λ text. first (f.read text) λ a rest. value (to a) rest;
  write = λ b. f.write (from b);
  Valid = P;
  Follow = λ b rest. f.Follow (from b) rest;
}

abbrev pub write_maybe : {A : Type 0} → (A → List ℕ) → Option A → List ℕ
write_maybe write none = []
write_maybe write (some a) = write a

abbrev pub Any : {A : Type 0} → (A → Type 0) → Option A → Type 0
Any P none = Unit
Any P (some a) = P a

abbrev pub FollowMaybe : {A : Type 0} → Format A → Option A → List ℕ → Type 0
FollowMaybe f none rest = Absent rest (f.read rest)
FollowMaybe f (some a) rest = f.Follow a rest

abbrev pub optional : {A : Type 0} → Format A → Format (Option A)
optional f = record {
  read = λ text. maybe none text (f.read text) λ a rest. value (some a) rest;
  write = write_maybe f.write;
  Valid = Any f.Valid;
  Follow = FollowMaybe f;
}

-- zero or more, as far as they go; the number bounds how many there can be
abbrev pub run : {A : Type 0} → (List ℕ → Answer A) → ℕ → List ℕ → Answer (List A)
run r zero text = short
run r (suc k) text = maybe [] text (r text) λ a rest. second (λ l. a ∷ l) rest (run r k rest)

abbrev pub write_all : {A : Type 0} → (A → List ℕ) → List A → List ℕ
write_all write [] = []
write_all write (a ∷ l) = write a ++ write_all write l

abbrev pub All : {A : Type 0} → (A → Type 0) → List A → Type 0
All P [] = Unit
All P (a ∷ l) = P a × All P l

-- two lists are equally long, and R holds of their elements one by one
abbrev pub Pairwise : {A B : Type 0} → (A → B → Type 0) → List A → List B → Type 0
Pairwise R [] [] = Unit
Pairwise R [] (b ∷ m) = ⊥
Pairwise R (a ∷ l) [] = ⊥
Pairwise R (a ∷ l) (b ∷ m) = R a b × Pairwise R l m

-- every element passes a test
abbrev pub every : {A : Type 0} → (A → Bool) → List A → Bool
every test [] = true
every test (a ∷ l) = test a && every test l

-- those of a list that pass a test, in their order
unfoldable pub keep : {A : Type 0} → (A → Bool) → List A → List A
keep test [] = []
keep test (a ∷ l) = choose (test a) (a ∷ keep test l) (keep test l)

abbrev pub FollowAll : {A : Type 0} → Format A → List A → List ℕ → Type 0
FollowAll f [] rest = Absent rest (f.read rest)
FollowAll f (a ∷ l) rest = FollowAll f l rest × f.Follow a (write_all f.write l ++ rest)

abbrev pub many : {A : Type 0} → Format A → Format (List A)
many f = record {
  read = λ text. run f.read (suc (length text)) text;
  write = write_all f.write;
  Valid = All f.Valid;
  Follow = FollowAll f;
}

abbrev pub write_either : {A B : Type 0} → Format A → Format B → A ⊎ B → List ℕ
write_either f g (inl a) = f.write a
write_either f g (inr b) = g.write b

abbrev pub ValidEither : {A B : Type 0} → Format A → Format B → A ⊎ B → Type 0
ValidEither f g (inl a) = f.Valid a
ValidEither f g (inr b) = g.Valid b

abbrev pub FollowEither : {A B : Type 0} → Format A → Format B → A ⊎ B → List ℕ → Type 0
FollowEither f g (inl a) rest = f.Follow a rest
FollowEither f g (inr b) rest = (f.read (g.write b ++ rest) ≡ other) × g.Follow b rest

-- one or the other, as the next unit decides
abbrev pub either : {A B : Type 0} → Format A → Format B → Format (A ⊎ B)
either f g = record {
  read = λ text. or_else (f.read text) (g.read text);
  write = write_either f g;
  Valid = ValidEither f g;
  Follow = FollowEither f g;
}

-- the same texts, of which a wrong one is told at its first unit
abbrev pub at_start : {A : Type 0} → Answer A → Answer A
at_start (value a rest) = value a rest
at_start other = other
at_start (wrong rest) = other
at_start short = short

abbrev pub atomic : {A : Type 0} → Format A → Format A
atomic f = record { read = λ text. at_start (f.read text); write = f.write; Valid = f.Valid; Follow = f.Follow }

-- the end of the text, which is taken in units of w bytes
abbrev pub end_read : ℕ → List ℕ → Answer (Unit {0})
end_read w [] = value tt []
end_read w (b ∷ text) = choose (ltb (length (b ∷ text)) w) short other

abbrev pub end : ℕ → Format (Unit {0})
end w = record { read = end_read w; write = λ v. []; Valid = λ v. Unit; Follow = λ v rest. rest ≡ [] }
