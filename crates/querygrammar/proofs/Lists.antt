-- Items, lists of alternatives and lists with a coordinate: what each begins with, and what may follow it.
use Prim.Native.Nat.{ℕ, ◌≤◌}
use mathlib.Core.List.{List, [], ◌∷◌, ◌++◌, append_assoc}
use mathlib.Core.Path.{◌≡◌}
use mathlib.Core.Bool.{Bool, true, false}
use mathlib.Core.Option.{Option, none, some}
use native.Mathlib.Omega.{arith}
use Rattle.format.specs.Format.{other, Format, sequence, optional, many, Absent, FollowAll}
use Rattle.format.proofs.Lawful.{Lawful}
use Rattle.format.proofs.Begun.{absent_other}
use Rattle.format.proofs.Sequence.{sequence_other}
use Rattle.format.proofs.Parts.{optional_lawful}
use Rattle.format.proofs.Many.{many_lawful}
use Rattle.format.proofs.Exact.{Exact}
use Rattle.format.proofs.ExactParts.{sequence_exact}
use Rattle.format.proofs.ExactMany.{many_exact}
use Rattle.format.proofs.Delimited.{Firm, Delimited, optional_firm}
use Rattle.format.proofs.Open.{Open, sequence_open, many_firm}
use Rattle.charset.specs.Bytes.{after}
use Rattle.charset.proofs.Units.{after_open, after_exact}
use Rattle.charset.proofs.FixedByte.{Not, after_absent}
use Rattle.querygrammar.specs.Query.{others, list, ListText}
use Rattle.querygrammar.proofs.Opens.{nothing_lawful, nothing_exact, nothing_firm}

-- THE NEXT BYTE, if there is one
abbrev pub Starts : (ℕ → Type 0) → List ℕ → Type 0
Starts P [] = Unit
Starts P (x ∷ t) = P x

-- no f and no r: what may follow an item
abbrev pub Unmarked : ℕ → Type 0
Unmarked x = (x ≡ 102 → ⊥) × (x ≡ 114 → ⊥)

-- no o either: what may follow alternatives
abbrev pub Apart : ℕ → Type 0
Apart x = Unmarked x × (x ≡ 111 → ⊥)

-- none that begins a coordinate either, nor A, nor T: what may follow a list with a coordinate, or the prefix
abbrev pub Later : ℕ → Type 0
Later x = Apart x × ((82 ≤ x) × ((x ≡ 84 → ⊥) × (x ≡ 240 → ⊥)))

-- as R, S and V
pub letter_later : (x : ℕ) → 82 ≤ x → x ≤ 86 → (x ≡ 84 → ⊥) → Later x
letter_later x a b n = (((λ e. omega arith, λ e. omega arith), λ e. omega arith), (a, (n, λ e. omega arith)))

pub starts_less : {P Q : ℕ → Type 0} (text : List ℕ) → ((x : ℕ) → P x → Q x) → Starts P text → Starts Q text
starts_less [] f p = tt
starts_less (x ∷ t) f p = f x p

pub starts_not : {P : ℕ → Type 0} (b : ℕ) (text : List ℕ) → ((x : ℕ) → P x → x ≡ b → ⊥) → Starts P text → Not b text
starts_not b [] f p = tt
starts_not b (x ∷ t) f p = f x p

-- what is known of items, alternatives and lists; P is what may follow
pub record Laws (P : ℕ → Type 0) {A : Type 0} (f : Format A) : Type 0 where
  pub opens : Open 1 f
  pub starts : (v : A) (t : List ℕ) → f.Valid v → Starts Later (f.write v ++ t)
  pub strange : (x : ℕ) (t : List ℕ) → (x ≡ 82 → ⊥) → (x ≡ 83 → ⊥) → (x ≡ 241 → ⊥) → f.read (x ∷ t) ≡ other
  pub follows : (v : A) (rest : List ℕ) → f.Valid v → Starts P rest → f.Follow v rest

-- ONE AFTER THE OTHER
module _ {P : ℕ → Type 0} {A : Type 0} (f : Format A) (l : Laws P f) where
  pub many_starts : {Q : ℕ → Type 0} → ((x : ℕ) → Later x → Q x) → (v : List A) (rest : List ℕ) → (many f).Valid v → Starts Q rest → Starts Q ((many f).write v ++ rest)
  many_starts q [] rest ok p = p
  many_starts q (a ∷ v) rest ok p =
      let t = (many f).write v ++ rest in
      rw (append_assoc (f.write a) ((many f).write v) rest) (starts_less (f.write a ++ t) q (l.starts a t ok.0))

  pub many_follow : ((x : ℕ) → Later x → P x) → (v : List A) (rest : List ℕ) → (many f).Valid v → Starts P rest → Absent rest (f.read rest) → FollowAll f v rest
  many_follow weak [] rest ok p absent = absent
  many_follow weak (a ∷ v) rest ok p absent =
      (many_follow weak v rest ok.1 p absent, l.follows a ((many f).write v ++ rest) ok.0 (many_starts weak v rest ok.1 p))

  pub many_laws : Lawful 1 (many f)
  many_laws = many_lawful 1 f l.opens.lawful l.opens.solid

-- ALTERNATIVES
module _ {A : Type 0} (f : Format A) (l : Laws Unmarked f) where
  pub joined_open : Open 1 (after 111 f)
  joined_open = after_open 111 f l.opens.lawful l.opens.firm

  pub others_lawful : (joins : Bool) → Lawful 1 (others joins f)
  others_lawful false = nothing_lawful [] 1
  others_lawful true = many_lawful 1 (after 111 f) joined_open.lawful joined_open.solid

  pub others_firm : (joins : Bool) → Firm (others joins f)
  others_firm false = nothing_firm []
  others_firm true = many_firm 1 (after 111 f) joined_open

  others_exact : Exact 1 f → (joins : Bool) → Exact 1 (others joins f)
  others_exact x false = nothing_exact [] 1 (omega arith)
  others_exact x true = many_exact 1 (after 111 f) (after_exact 111 f x) joined_open.solid

  -- what comes after an item is an o, or what comes after the alternatives
  joined_starts : (v : List A) (rest : List ℕ) → Starts Apart rest → Starts Unmarked ((many (after 111 f)).write v ++ rest)
  joined_starts [] rest p = starts_less rest (λ x k. k.0) p
  joined_starts (a ∷ v) rest p = (λ e. omega arith, λ e. omega arith)

  joined_follow : (v : List A) (rest : List ℕ) → (many (after 111 f)).Valid v → Starts Apart rest → FollowAll (after 111 f) v rest
  joined_follow [] rest ok p = after_absent 111 f rest (starts_not 111 rest (λ x k. k.1) p)
  joined_follow (a ∷ v) rest ok p =
      (joined_follow v rest ok.1 p, (l.follows a ((many (after 111 f)).write v ++ rest) ok.0 (joined_starts v rest p), tt))

  list_follows : (joins : Bool) (v : ListText A) (rest : List ℕ) → (list joins f).Valid v → Starts Apart rest → (list joins f).Follow v rest
  list_follows false v rest ok p = (tt, l.follows v.0 rest ok.0 (starts_less rest (λ x k. k.0) p))
  list_follows true v rest ok p =
      (joined_follow v.1 rest ok.1 p, l.follows v.0 ((many (after 111 f)).write v.1 ++ rest) ok.0 (joined_starts v.1 rest p))

  pub list_laws : (joins : Bool) → Laws Apart (list joins f)
  list_laws joins = record {
    opens = sequence_open 1 f (λ a. others joins f) l.opens (λ a ok. others_firm joins) λ a ok. others_lawful joins;
    starts = λ v t ok. rw (append_assoc (f.write v.0) ((others joins f).write v.1) t) (l.starts v.0 ((others joins f).write v.1 ++ t) ok.0);
    strange = λ x t a b c. sequence_other f (λ a. others joins f) (x ∷ t) (l.strange x t a b c);
    follows = list_follows joins;
  }

  pub list_exact : Exact 1 f → (joins : Bool) → Exact 1 (list joins f)
  list_exact x joins = sequence_exact 1 f (λ a. others joins f) x λ a ok. others_exact x joins

-- A LIST WITH A COORDINATE
pub record Point (c : Format (ℕ × ℕ)) : Type 0 where
  pub delimited : Delimited 1 c
  pub starts : (v : ℕ × ℕ) (t : List ℕ) → c.Valid v → Starts Apart (c.write v ++ t)
  pub strange : (x : ℕ) (t : List ℕ) → 58 ≤ x → (x ≡ 240 → ⊥) → c.read (x ∷ t) ≡ other

module _ {A : Type 0} (f : Format A) (l : Laws Apart f) (c : Format (ℕ × ℕ)) (p : Point c) where
  no_point : (rest : List ℕ) → Starts Later rest → Absent rest (c.read rest)
  no_point [] k = rw p.delimited.empty tt
  no_point (x ∷ t) k = absent_other (x ∷ t) (p.strange x t (omega (arith, k.1.0)) k.1.1.1)

  point_follow : (o : Option (ℕ × ℕ)) (rest : List ℕ) → (optional c).Valid o → Starts Later rest → (optional c).Follow o rest
  point_follow none rest ok k = no_point rest k
  point_follow (some v) rest ok k = p.delimited.free v rest ok

  point_starts : (o : Option (ℕ × ℕ)) (rest : List ℕ) → (optional c).Valid o → Starts Later rest → Starts Apart ((optional c).write o ++ rest)
  point_starts none rest ok k = starts_less rest (λ x q. q.0) k
  point_starts (some v) rest ok k = p.starts v rest ok

  pub placed_laws : Laws Later (sequence f λ a. optional c)
  placed_laws = record {
    opens = sequence_open 1 f (λ a. optional c) l.opens (λ a ok. optional_firm c p.delimited.firm) λ a ok. optional_lawful 1 c p.delimited.lawful;
    starts = λ v t ok. rw (append_assoc (f.write v.0) ((optional c).write v.1) t) (l.starts v.0 ((optional c).write v.1 ++ t) ok.0);
    strange = λ x t a b d. sequence_other f (λ a. optional c) (x ∷ t) (l.strange x t a b d);
    follows = λ v rest ok k. (point_follow v.1 rest ok.1 k, l.follows v.0 ((optional c).write v.1 ++ rest) ok.0 (point_starts v.1 rest ok.1 k));
  }
