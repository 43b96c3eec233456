-- A text that is well-formed in the first edition is read in the second as FSW with the same refusal, or as the same query.
use Prim.Native.Nat.{ℕ, ◌+◌}
use Prim.Native.Char.{code}
use mathlib.Core.List.{List, [], ◌∷◌, ◌++◌}
use mathlib.Core.Path.{◌≡◌, refl, sym, ap, ◌∙◌}
use mathlib.Core.Bool.{true, false}
use mathlib.Core.Logic.{inl, inr}
use mathlib.Core.Option.{Option, none, some}
use lib.ListN.{length}
use Rattle.format.specs.Format.{Format, All, sequence, either, optional, many}
use Rattle.format.specs.Places.{fine}
use Rattle.charset.specs.declared.Charset.TheVariants.{Fsw}
use Rattle.charset.specs.Bytes.{byte, after}
use Rattle.token.specs.Result.{and_then, of_outcome}
use Rattle.querygrammar.specs.declared.Edition.TheVariants.{First, Second}
use Rattle.querygrammar.specs.Spelling.{FswText, range_text, key_only, null_or_key, fsw_meaning, first, second_fsw}
use Rattle.querygrammar.specs.Query.{others, list, ListText, SoughtText, HeadText, QueryText, variance, coordinate, prefix_list, bare_list, signbox_list, some_lists, prefix_lists, head, tail, after_q, query, meaning}
use Rattle.querygrammar.specs.QueryLaws.{read_query}
use Rattle.querygrammar.proofs.QueryLaws.{query_laws}
use Rattle.querypart.specs.Spots.{Spot, all_spots, list_spots, first_reversed}
use Rattle.query.specs.Reading.{head_spots, spots_of, limited, query_of}
use Rattle.query.specs.ReadingLaws.{FirstInSecond}

-- ONE FORMAT WITHIN ANOTHER: what the first can say the second says too, in the same text

record Within {A : Type 0} (f g : Format A) (v : A) : Type 0 where
  pub valid : g.Valid v
  pub same : f.write v ≡ g.write v

abbrev In : {A : Type 0} → Format A → Format A → Type 0
In {A = A} f g = (v : A) → f.Valid v → Within f g v

in_itself : {A : Type 0} (f : Format A) → In f f
in_itself f v ok = record { valid = ok; same = refl }

in_after : {A : Type 0} (b : ℕ) (f g : Format A) → In f g → In (after b f) (after b g)
in_after b f g p v ok = let x = p v ok in record { valid = x.valid; same = ap (λ t. b ∷ t) x.same }

in_sequence : {A B : Type 0} (f g : Format A) (h k : Format B) → In f g → In h k → In (sequence f λ a. h) (sequence g λ a. k)
in_sequence f g h k p q v ok =
    let x = p v.0 ok.0 in
    let y = q v.1 ok.1 in
    record { valid = (x.valid, y.valid); same = λ i. x.same i ++ y.same i }

in_either : {A B : Type 0} (f g : Format A) (h k : Format B) → In f g → In h k → In (either f h) (either g k)
in_either f g h k p q (inl a) ok = let x = p a ok in record { valid = x.valid; same = x.same }
in_either f g h k p q (inr b) ok = let x = q b ok in record { valid = x.valid; same = x.same }

in_optional : {A : Type 0} (f g : Format A) → In f g → In (optional f) (optional g)
in_optional f g p none ok = record { valid = tt; same = refl }
in_optional f g p (some a) ok = let x = p a ok in record { valid = x.valid; same = x.same }

in_many : {A : Type 0} (f g : Format A) → In f g → In (many f) (many g)
in_many f g p [] ok = record { valid = tt; same = refl }
in_many f g p (a ∷ l) ok =
    let x = p a ok.0 in
    let y = in_many f g p l ok.1 in
    record { valid = (x.valid, y.valid); same = λ i. x.same i ++ y.same i }

-- THE FIRST EDITION WITHIN THE SECOND

key_in : In key_only null_or_key
key_in (inl n) ok = absurd ok
key_in (inr k) ok = record { valid = ok; same = refl }

prefix_item_in : In first.prefix_item second_fsw.prefix_item
prefix_item_in =
    in_either (after (code "S") key_only) (after (code "S") null_or_key) range_text range_text (in_after (code "S") key_only null_or_key key_in) (in_itself range_text)

-- an item alone is a list of alternatives
list_in : {A : Type 0} (f g : Format A) → In f g → In (list false f) (list true g)
list_in f g p = in_sequence f g (others false f) (others true g) p λ v ok. record { valid = rw ok tt; same = rw ok refl }

prefix_list_in : In (prefix_list first) (prefix_list second_fsw)
prefix_list_in = list_in first.prefix_item second_fsw.prefix_item prefix_item_in

signbox_list_in : In (signbox_list first) (signbox_list second_fsw)
signbox_list_in =
    let c = optional (coordinate first) in
    in_sequence (bare_list first) (bare_list second_fsw) c c (list_in first.signbox_item first.signbox_item (in_itself first.signbox_item)) (in_itself c)

optional_head_in : In (optional (head first)) (optional (head second_fsw))
optional_head_in =
    in_optional (head first) (head second_fsw)
    (in_either (byte (code "T")) (byte (code "T")) (after (code "A") (prefix_lists first)) (after (code "A") (prefix_lists second_fsw)) (in_itself (byte (code "T")))
    (in_after (code "A") (prefix_lists first) (prefix_lists second_fsw)
    (in_sequence (some_lists first) (some_lists second_fsw) (byte (code "T")) (byte (code "T"))
    (in_sequence (prefix_list first) (prefix_list second_fsw) (many (prefix_list first)) (many (prefix_list second_fsw)) prefix_list_in (in_many (prefix_list first) (prefix_list second_fsw) prefix_list_in))
    (in_itself (byte (code "T"))))))

query_in_lem : In (query first) (query second_fsw)
query_in_lem =
    in_after (code "Q") (after_q first) (after_q second_fsw)
    (in_sequence (optional (head first)) (optional (head second_fsw)) (tail first) (tail second_fsw) optional_head_in
    (in_sequence (many (signbox_list first)) (many (signbox_list second_fsw)) variance variance (in_many (signbox_list first) (signbox_list second_fsw) signbox_list_in) (in_itself variance)))

-- THE ITEMS STAND AT THE SAME OFFSETS

spots_in : {A : Type 0} (f g : Format A) (p q : ℕ → A → List Spot) → In f g → ((at : ℕ) (a : A) → f.Valid a → p at a ≡ q at a)
    → (at : ℕ) (l : List A) → All f.Valid l → all_spots f p at l ≡ all_spots g q at l
spots_in f g p q w e at [] ok = refl
spots_in f g p q w e at (a ∷ l) ok =
    let n = (w a ok.0).same in
    λ i. e at a ok.0 i ++ ((λ j. all_spots f p (at + length (n j)) l) ∙ spots_in f g p q w e (at + length (g.write a)) l ok.1) i

prefix_spots : (at : ℕ) (v : ListText FswText) → (prefix_list first).Valid v → list_spots first.prefix_item fsw_meaning at v ≡ list_spots second_fsw.prefix_item fsw_meaning at v
prefix_spots at v ok = rw ok.1

head_spots_lem : (h : Option (HeadText FswText)) → (optional (head first)).Valid h → head_spots first h ≡ head_spots second_fsw h
head_spots_lem none ok = refl
head_spots_lem (some (inl t)) ok = refl
head_spots_lem (some (inr p)) ok =
    spots_in (prefix_list first) (prefix_list second_fsw) (list_spots first.prefix_item fsw_meaning) (list_spots second_fsw.prefix_item fsw_meaning) prefix_list_in prefix_spots 2 (p.0.0 ∷ p.0.1) ok.0

same_spots : (t : QueryText FswText) → (query first).Valid t → spots_of first t ≡ spots_of second_fsw t
same_spots t ok =
    let spots : ℕ → SoughtText FswText → List Spot = λ at v. list_spots first.signbox_item fsw_meaning at v.0 in
    let n = (optional_head_in t.0 ok.0).same in
    λ i. head_spots_lem t.0 ok.0 i
    ++ ((λ j. all_spots (signbox_list first) spots (1 + length (n j)) t.1.0)
    ∙ spots_in (signbox_list first) (signbox_list second_fsw) spots spots signbox_list_in (λ at v ok. refl) (1 + length ((optional (head second_fsw)).write t.0)) t.1.0 ok.1.0) i

pub first_in_second : FirstInSecond
unfolding query_of
first_in_second text formed =
    let t = formed.says in
    let x = query_in_lem t formed.valid in
    let a : read_query First text ≡ fine t = ap (read_query First) formed.is ∙ (query_laws First).reads t formed.valid in
    let b : read_query (Second Fsw) text ≡ fine t = ap (read_query (Second Fsw)) (formed.is ∙ x.same) ∙ (query_laws (Second Fsw)).reads t x.valid in
    ap (λ o. and_then (of_outcome (length text) o) λ t. limited (meaning fsw_meaning t) (first_reversed (spots_of first t))) a
    ∙ ap (λ l. limited (meaning fsw_meaning t) (first_reversed l)) (same_spots t formed.valid)
    ∙ ap (λ o. and_then (of_outcome (length text) o) λ t. limited (meaning fsw_meaning t) (first_reversed (spots_of second_fsw t))) (sym b)
