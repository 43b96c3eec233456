-- What a call comes to, and how it is answered.
use Rattle.std.specs.Prelude.{Result as Answer, Ok, Err, ℕ, ◌≡◌, List, ◌++◌, Bool, ltb, length, take, drop}
use Rattle.format.specs.Format.{Format, choose}
use Rattle.format.specs.Places.{Outcome, fine, refused, ends_short}
use Rattle.format.specs.Located.{Located, found, wrong_at, short_here, locate}
use Rattle.token.specs.declared.refusal.Refusal.{Refusal}
use Rattle.token.specs.Refusal.{text_wrong, text_short, room_short, number_of, place_of}

-- a refusal number with its place, or a value
pub data Result (A : Type 0) : Type 0 where
  refusal : ℕ → ℕ → Result A
  done : A → Result A

-- what a function answers: a value, or a refusal by its number and place
abbrev pub outcome : {A : Type 0} → Answer A Refusal → Result A
outcome (Ok a) = done a
outcome (Err e) = refusal (number_of e) (place_of e)

abbrev pub on_done : {A B : Type 0} → (A → B) → Result A → Result B
on_done to (refusal number place) = refusal number place
on_done to (done a) = done (to a)

-- refused with this number and place, unless the test holds
abbrev pub check : {A : Type 0} → Bool → ℕ → ℕ → Result A → Result A
check test number place r = choose test r (refusal number place)

-- what may be refused in its turn; the first refusal stands
abbrev pub and_then : {A B : Type 0} → Result A → (A → Result B) → Result B
and_then (refusal number place) next = refusal number place
and_then (done a) next = next a

-- a text of size bytes, refused as 1 at the place or as 2 at its length
abbrev pub of_outcome : {A : Type 0} → ℕ → Outcome A → Result A
of_outcome size (fine a) = done a
of_outcome size (refused p) = refusal text_wrong p
of_outcome size ends_short = refusal text_short size

-- the same of a part of the text: its value, and the offset after it
abbrev pub of_located : {A : Type 0} → ℕ → Located A → Result (A × ℕ)
of_located size (found a next) = done (a, next)
of_located size (wrong_at p) = refusal text_wrong p
of_located size short_here = refusal text_short size

-- what a format comes to at an offset of a text
abbrev pub result_at : {A : Type 0} → Format A → List ℕ → ℕ → Result (A × ℕ)
result_at f s at = of_located (length s) (locate f s at)

abbrev pub value_at : {A : Type 0} → Format A → List ℕ → ℕ → Result A
value_at f s at = on_done (λ p. p.0) (result_at f s at)

-- A call that writes text needs room for the whole of it: too little is refused as 6, with the room needed.
abbrev pub fitted : ℕ → List ℕ → Result (List ℕ)
fitted room text = choose (ltb room (length text)) (refusal room_short (length text)) (done text)

abbrev pub in_room : ℕ → Result (List ℕ) → Result (List ℕ)
in_room room (refusal number place) = refusal number place
in_room room (done text) = fitted room text

-- What a call that writes text answers, as numbers: its length, and zeros where the call is refused.
pub record Written : Type 0 where
  pub number : ℕ
  pub place : ℕ
  pub length : ℕ

abbrev pub written_as : Result (List ℕ) → Written
written_as (refusal number place) = record { number = number; place = place; length = 0 }
written_as (done text) = record { number = 0; place = 0; length = length text }

-- and by the function that makes it: the text's length, or the refusal
abbrev pub as_written : Answer ℕ Refusal → Written
as_written (Ok n) = record { number = 0; place = 0; length = n }
as_written (Err e) = record { number = number_of e; place = place_of e; length = 0 }

-- the lent memory after the call: the text at its start, and nothing else changed
abbrev pub left_as : List ℕ → Result (List ℕ) → List ℕ
left_as out (refusal number place) = out
left_as out (done text) = text ++ drop (length text) out

unfoldable pub written : List ℕ → Result (List ℕ) → Written
written out r = written_as (in_room (length out) r)

unfoldable pub output : List ℕ → Result (List ℕ) → List ℕ
output out r = left_as out (in_room (length out) r)

-- the text that a call leaves at the start of the lent memory, as many bytes as it answers
abbrev pub left_text : List ℕ → Result (List ℕ) → List ℕ
left_text out r = take (written out r).length (output out r)

-- Lent the memory out, a call that comes to r answers 0 and leaves this text at its start, and the rest as it was.
pub record Leaves (out : List ℕ) (r : Result (List ℕ)) (text : List ℕ) : Type 0 where
  pub answer : written out r ≡ record { number = 0; place = 0; length = length text }
  pub memory : output out r ≡ text ++ drop (length text) out

-- Lent the memory as a call that came to r left it, one that comes to s gives the same answer and changes no byte.
pub record Unchanged (out : List ℕ) (r s : Result (List ℕ)) : Type 0 where
  pub answer : written (output out r) s ≡ written out r
  pub memory : output (output out r) s ≡ output out r
