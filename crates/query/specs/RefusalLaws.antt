-- Which number `read` answers of a text, at which place: each exactly then (document 01, "Refusal numbers"; document 02, Q-5 and Q-9).
use Rattle.std.specs.Prelude.{ℕ, ◌≤◌, ◌≡◌, List, ◌⊎◌, ◌↔◌, length}
use Rattle.format.specs.Places.{FirstWrong, Unfinished}
use Rattle.format.specs.Numbers.{Place}
use Rattle.charset.specs.declared.Charset.TheVariants.{Fsw, Swu}
use Rattle.token.specs.Refusal.{text_wrong, text_short, prefix_long, signbox_long, range_reversed, alternatives_long}
use Rattle.querygrammar.specs.declared.Edition.{Edition}
use Rattle.querygrammar.specs.declared.Edition.TheVariants.{First, Second}
use Rattle.querygrammar.specs.Spelling.{first, second_fsw, second_swu, spelling}
use Rattle.querygrammar.specs.Query.{query}
use Rattle.querygrammar.specs.QueryLaws.{Text, QueryNumber}
use Rattle.query.specs.Reading.{query_of, reading_of}
use Rattle.query.specs.ReadingLaws.{meant, PrefixFits, SignboxFits, AlternativesFit, InLimits, FirstReversed}

-- what `read` answers of a text: this number, at this place
abbrev pub Answers : Edition → List ℕ → ℕ → ℕ → Type 0
Answers e text number place = ((reading_of (query_of e text)).number ≡ number) × ((reading_of (query_of e text)).place ≡ place)

-- the text is well-formed and says t
abbrev pub Says : (e : Edition) → List ℕ → Text e → Type 0
Says e text t = (query (spelling e)).Valid t × (text ≡ (query (spelling e)).write t)

-- the place of 1: the first wrong byte, and in FSW the first byte of a coordinate number if that is in one
abbrev pub WrongAt : Edition → List ℕ → ℕ → Type 0
WrongAt First text p = Place (query first) (QueryNumber first) text p
WrongAt (Second Fsw) text p = Place (query second_fsw) (QueryNumber second_fsw) text p
WrongAt (Second Swu) text p = FirstWrong (query second_swu) text p

pub record RefusalLaws (e : Edition) : Type 0 where
  pub wrong : (text : List ℕ) (p : ℕ) → Answers e text text_wrong p ↔ WrongAt e text p
  pub short : (text : List ℕ) (p : ℕ) → Answers e text text_short p ↔ (Unfinished (query (spelling e)) text × (p ≡ length text))
  -- in a well-formed text, the first limit that is not met
  pub refuses_prefix : (text : List ℕ) (p : ℕ) → Answers e text prefix_long p ↔ ((t : Text e) × Says e text t × (PrefixFits (meant e t) → ⊥) × (p ≡ 0))
  pub refuses_signbox : (text : List ℕ) (p : ℕ)
      → Answers e text signbox_long p ↔ ((t : Text e) × Says e text t × PrefixFits (meant e t) × (SignboxFits (meant e t) → ⊥) × (p ≡ 0))
  pub refuses_alternatives : (text : List ℕ) (p : ℕ)
      → Answers e text alternatives_long p ↔ ((t : Text e) × Says e text t × PrefixFits (meant e t) × SignboxFits (meant e t) × (AlternativesFit (meant e t) → ⊥) × (p ≡ 0))
  -- then the first reversed range, at its R
  pub reversed : (text : List ℕ) (p : ℕ)
      → Answers e text range_reversed p ↔ ((t : Text e) × Says e text t × PrefixFits (meant e t) × SignboxFits (meant e t) × AlternativesFit (meant e t) × FirstReversed e text t p)
  -- a well-formed text within the limits is accepted, and no other; the place is then 0 too
  pub accepted : (text : List ℕ) (p : ℕ) → Answers e text 0 p ↔ ((t : Text e) × Says e text t × InLimits (meant e t) × (p ≡ 0))
  -- and no other number is given
  pub numbers : (text : List ℕ) → ((reading_of (query_of e text)).number ≤ range_reversed) ⊎ ((reading_of (query_of e text)).number ≡ alternatives_long)
