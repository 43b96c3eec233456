-- Where the numbers of a sign in FSW stand, and so its places.
use Prim.Native.Nat.{ℕ, ◌≤◌, ◌<◌}
use mathlib.Core.List.{List, [], ◌∷◌, ◌++◌, append_assoc, append-nil}
use mathlib.Core.Path.{◌≡◌, refl, ap, ◌∙◌}
use mathlib.Core.Logic.{inl, inr}
use mathlib.Core.Option.{Option}
use lib.ListN.{length}
use native.Mathlib.Omega.{arith}
use Rattle.format.specs.Format.{other, Format, atomic, maybe, second, sequence, optional, many}
use Rattle.format.specs.Numbers.{Here, After, ByNumbers}
use Rattle.format.proofs.Exact.{Exact}
use Rattle.format.proofs.ExactParts.{optional_exact}
use Rattle.format.proofs.Many.{step}
use Rattle.format.proofs.Delimited.{Delimited, solid}
use Rattle.format.proofs.Unit.{unit_below}
use Rattle.format.proofs.Numbered.{Led, Shut, unbegun, past, Numbered, mapped_numbered, sequence_numbered, after_numbered, many_numbered}
use Rattle.format.proofs.NumberPlaces.{by_numbers}
use Rattle.charset.specs.declared.Charset.TheVariants.{Fsw}
use Rattle.charset.specs.Bytes.{byte_of, byte, after}
use Rattle.charset.specs.Tokens.{Tokens, fsw, fsw_number, key, last_writing}
use Rattle.charset.proofs.Coding.{byte_exact}
use Rattle.charset.proofs.Keys.{number_strict}
use Rattle.charset.proofs.Numbers.{before, number_numbered}
use Rattle.charset.proofs.Sets.{LawfulTokens, fsw_lawful, exact_tokens, exact_lawful, exact}
use Rattle.charset.proofs.Units.{after_inverse, after_exact, after_other}
use Rattle.grammar.specs.Sign.{Valid, point, placed, prefix, lead, spatial, signbox, parts, to_meaning, of_meaning, sign_with, sign}
use Rattle.grammar.specs.SignLaws.{PointNumber, BoxNumber, SignNumber}
use Rattle.grammar.proofs.Sign.{spatial_fixed, lead_fixed, sequence_other, prefix_follow, sign_lawful}
use Rattle.grammar.proofs.ExactSign.{point_exact, placed_exact, prefix_exact_lem, signbox_exact_lem, sign_exact, exact_inverse, exact_ready}

-- the exact grammar, beside that of fsw
abbrev t : Tokens
t = exact_tokens Fsw

abbrev l : LawfulTokens t
l = exact_lawful Fsw

-- a digit begins nothing that begins with a letter
pub not_digit : {A : Type 0} (b : ℕ) (f : Format A) → 57 < b → (start : List ℕ) → Led start → (after b f).read start ≡ other
not_digit b f h [] k = absurd k
not_digit b f h (a ∷ start) k = after_other b f (a ∷ start) (unit_below 1 (byte_of λ a. a) (λ a. a ∷ []) b b (a ∷ []) start refl (omega (arith, k.1)))

second_numbered : Numbered fsw_number (After (byte 120) Here) (after 120 fsw_number) (after 120 (atomic fsw_number)).read
second_numbered =
    mapped_numbered fsw_number (After (byte 120) Here) (sequence (byte 120) λ a. fsw_number) (sequence (byte 120) (λ a. atomic fsw_number)).read
    (λ p. p.1) (λ v. (120, v)) fsw_number.Valid (after_inverse 120 fsw_number)
    (after_numbered fsw_number Here (byte 120) fsw_number (atomic fsw_number).read (byte_exact 120) number_strict.exact.some number_numbered (λ a y ok d start h. tt))

pub point_numbered : Numbered fsw_number PointNumber (point t) (point fsw).read
point_numbered =
    sequence_numbered fsw_number Here (After (byte 120) Here) fsw_number (atomic fsw_number).read (after 120 fsw_number) (after 120 (atomic fsw_number)).read
    number_strict.exact (after_exact 120 fsw_number number_strict.exact).some number_numbered second_numbered
    (λ a y ok d start h. number_strict.delimited.free a (y ++ start) ok)
    (λ x c. (λ start h. unbegun refl (not_digit 120 fsw_number (omega arith) start h), λ start h. unbegun refl (not_digit 120 (atomic fsw_number) (omega arith) start h)))

placed_numbered : (f : Format ℕ) → Exact 1 f → ((v : ℕ) (rest : List ℕ) → f.Valid v → f.Follow v rest)
    → Numbered fsw_number (After f PointNumber) (placed t f) (placed fsw f).read
placed_numbered f e free =
    after_numbered fsw_number PointNumber f (point t) (point fsw).read e (point_exact t (exact Fsw)).some point_numbered (λ a y ok d start h. free a (y ++ start) ok)

abbrev LeadNumber : List ℕ → Type 0
LeadNumber = After (fsw.marker 1 4) PointNumber

abbrev SymbolNumber : List ℕ → Type 0
SymbolNumber = After (fsw.symbol last_writing) PointNumber

lead_numbered : Numbered fsw_number LeadNumber (lead t) (lead fsw).read
lead_numbered = placed_numbered (t.marker 1 4) ((exact Fsw).marker 1 4 (omega arith) (omega arith)) (λ v rest ok. tt)

abbrev symbol_free : (v : ℕ) (rest : List ℕ) → (t.symbol last_writing).Valid v → (t.symbol last_writing).Follow v rest
symbol_free = (l.symbol last_writing (omega arith) (omega arith)).delimited.free

symbol_exact : Exact 1 (t.symbol last_writing)
symbol_exact = (exact Fsw).symbol last_writing (omega arith) (omega arith)

-- no symbol begins with a digit
spatial_not : (u : Tokens) → u.symbol last_writing ≡ after 83 (key last_writing) → (start : List ℕ) → Led start → (spatial u).read start ≡ other
spatial_not u e start h = sequence_other (u.symbol last_writing) (λ v. point u) start (rw e (not_digit 83 (key last_writing) (omega arith) start h))

abbrev told : Delimited 1 (spatial fsw)
told = (spatial_fixed fsw fsw_lawful).delimited

abbrev exactly : Delimited 1 (spatial t)
exactly = (spatial_fixed t l).delimited

spatials_numbered : Numbered fsw_number (After (many (spatial fsw)) SymbolNumber) (many (spatial t)) (many (spatial fsw)).read
spatials_numbered =
    many_numbered fsw_number SymbolNumber (spatial t) (spatial fsw).read (placed_exact t (exact Fsw) (t.symbol last_writing) symbol_exact)
    (placed_numbered (t.symbol last_writing) symbol_exact symbol_free)
    (solid 1 (spatial t) exactly) (step 1 (spatial fsw) told.lawful (solid 1 (spatial fsw) told)) (λ a y ok c start h. exactly.free a (y ++ start) ok)
    (λ start h. (spatial_not t refl start h, spatial_not fsw refl start h))

-- where no symbol begins, the signbox ends
ends : (u : Tokens) → Delimited 1 (spatial u) → u.symbol last_writing ≡ after 83 (key last_writing) → Shut (many (spatial u)).read
ends u d e start h =
    past [] (step 1 (spatial u) d.lawful (solid 1 (spatial u) d) start
    ∙ ap (λ r. maybe [] start r λ a rest. second (λ l. a ∷ l) rest ((many (spatial u)).read rest)) (spatial_not u e start h))

box_numbered : Numbered fsw_number BoxNumber (signbox t) (signbox fsw).read
box_numbered =
    sequence_numbered fsw_number LeadNumber (After (many (spatial fsw)) SymbolNumber) (lead t) (lead fsw).read (many (spatial t)) (many (spatial fsw)).read
    (placed_exact t (exact Fsw) (t.marker 1 4) ((exact Fsw).marker 1 4 (omega arith) (omega arith)))
    (record { says = []; valid = tt; more = []; is = refl }) lead_numbered spatials_numbered
    (λ a y ok c start h. (lead_fixed t l).delimited.free a (y ++ start) ok) (λ x c. (ends t exactly refl, ends fsw told refl))

-- before a number of a signbox stands its marker
box_begun : (y : List ℕ) → BoxNumber y → 1 ≤ length y
box_begun y (inl w) = omega (arith, ap length w.3)
box_begun y (inr w) = omega (arith, ap length w.3)

prefix_meets : (p : Option (ℕ × (ℕ × List ℕ))) (y : List ℕ) → (optional (prefix t)).Valid p → BoxNumber y → (start : List ℕ) → Led start → (optional (prefix t)).Follow p (y ++ start)
prefix_meets p y ok c start h =
    let w = fsw_number.write 250 in
    let b = (box_numbered.calls y c).begins 250 (omega arith, omega arith) in
    let k = prefix_follow t l p b.says [] ok b.valid in
    let z : (signbox t).write b.says ++ [] ≡ y ++ (w ++ b.more) = append-nil ((signbox t).write b.says) ∙ b.is ∙ append_assoc y w b.more in
    (optional_exact 1 (prefix t) (prefix_exact_lem t l (exact Fsw))).keeps p y (w ++ b.more) start ok (box_begun y c) (rw z at k)

sign_numbered : Numbered fsw_number SignNumber (sign_with t) (sign Fsw).read
sign_numbered =
    mapped_numbered fsw_number SignNumber (parts t) (parts fsw).read to_meaning of_meaning Valid (exact_inverse Fsw)
    (after_numbered fsw_number BoxNumber (optional (prefix t)) (signbox t) (signbox fsw).read (optional_exact 1 (prefix t) (prefix_exact_lem t l (exact Fsw)))
    (signbox_exact_lem t l (exact Fsw)).some box_numbered prefix_meets)

-- THE LAW OF PLACES of signs in FSW
pub fsw_places : ByNumbers fsw_number (sign Fsw) SignNumber
fsw_places =
    by_numbers fsw_number number_strict.exact (λ n ok. refl) before SignNumber (sign_with t) (sign Fsw) (sign_exact Fsw) (sign_lawful Fsw) (exact_ready Fsw)
    (λ m. refl) (λ m ok. ok) (λ m ok. ok) sign_numbered
