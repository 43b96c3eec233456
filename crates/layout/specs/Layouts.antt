-- How answers lie in lent numbers, in the order of the C header. The refusal number comes first; 0 is done.
use Rattle.std.specs.Prelude.{Result as Answer, Ok, Err, ℕ, ◌-◌, List, [], ◌∷◌, ◌++◌, Bool, true, false, cond, eqb, Float, get_or}
use Rattle.format.specs.Format.{choose}
use Rattle.charset.specs.declared.Charset.{Charset}
use Rattle.charset.specs.declared.Charset.TheVariants.{Fsw, Swu}
use Rattle.token.specs.declared.refusal.Refusal.{Refusal}
use Rattle.token.specs.Refusal.{number_of, place_of}
use Rattle.token.specs.Padded.{zeros}
use Rattle.token.specs.Result.{Written}
use Rattle.symbol.specs.Codes.{Code}
use Rattle.sign.specs.declared.Sign.{Sign}
use Rattle.sign.specs.Reading.{Reading}
use Rattle.bounds.specs.declared.groups.Groups.{Groups}
use Rattle.bounds.specs.Centre.{head, head_with_trunk, all, box_of}
use Rattle.geometry.specs.Geometry.{Bounds}
use Rattle.querygrammar.specs.declared.Edition.{Edition}
use Rattle.querygrammar.specs.declared.Edition.TheVariants.{First, Second}
use Rattle.query.specs.Reading.{Reading as QueryReading}
use Rattle.matching.specs.Meets.{Verdict}

-- C's bool for the character set
abbrev pub set_of : Bool → Charset
set_of false = Fsw
set_of true = Swu

-- C's bools for the edition of a query: whether it is the second, and then its character set
abbrev pub edition_of : Bool → Bool → Edition
edition_of false swu = First
edition_of true swu = Second (set_of swu)

abbrev pub flag : Bool → ℕ
flag b = cond b 1 0

-- a refusal, in n numbers
abbrev pub refused_numbers : ℕ → Refusal → List ℕ
refused_numbers n e = number_of e ∷ place_of e ∷ zeros (n - 2)

-- an answer without the numbers of its value
abbrev pub told_numbers : {A : Type 0} → Answer A Refusal → List ℕ
told_numbers (Ok a) = 0 ∷ 0 ∷ []
told_numbers (Err e) = number_of e ∷ place_of e ∷ []

abbrev pub code_numbers : Code → List ℕ
code_numbers c = c.number ∷ c.place ∷ c.code ∷ []

abbrev pub written_numbers : Written → List ℕ
written_numbers w = w.number ∷ w.place ∷ w.length ∷ []

-- SIGNS

abbrev pub reading_numbers : Reading → List ℕ
reading_numbers r = r.number ∷ r.place ∷ []

abbrev pub lead_numbers : Sign → List ℕ
lead_numbers s = s.marker ∷ s.max_x ∷ s.max_y ∷ s.prefix_count ∷ s.symbol_count ∷ []

unfoldable pub sign_numbers : Sign → List ℕ
sign_numbers s = lead_numbers s ++ (s.prefix ++ (s.codes ++ (s.xs ++ (s.ys ++ (s.prefix_offsets ++ s.symbol_offsets)))))

-- the lent sign after the call: as it was where the text is refused
abbrev pub sign_left : List ℕ → Reading → List ℕ
sign_left before r = choose (eqb r.number 0) (sign_numbers r.sign) before

-- BOXES

abbrev pub group_numbers : Groups → ℕ → List ℕ
group_numbers g group =
    flag (get_or g.present group false) ∷ (box_of g group).left ∷ (box_of g group).top ∷ (box_of g group).right ∷ (box_of g group).bottom ∷ []

abbrev pub bounds_numbers : Bounds → List ℕ
bounds_numbers b =
    b.number ∷ b.place
    ∷ (group_numbers b.groups head ++ (group_numbers b.groups head_with_trunk ++ (group_numbers b.groups all
    ++ (b.doubled.x ∷ b.doubled.y ∷ []))))

-- the lent centre after the call: as it was where the boxes are refused
abbrev pub centre_left : List Float → Bounds → List Float
centre_left before b = choose (eqb b.number 0) (b.centre.x ∷ b.centre.y ∷ []) before

-- QUERIES

abbrev pub query_numbers : QueryReading → List ℕ
query_numbers r = r.number ∷ r.place ∷ []

abbrev pub verdict_numbers : Verdict → List ℕ
verdict_numbers v = v.number ∷ v.place ∷ flag v.met ∷ v.unmet ∷ v.witnesses
