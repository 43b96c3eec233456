-- The words of a query are bounded by the length of its text: a list of c alternatives is written with at least 4 * c bytes and takes
-- 3 + 3 * c words, which are at most 6 * c: three words to two bytes.
use Prim.Native.Nat.{ℕ, ◌+◌, ◌*◌, ◌≤◌}
use mathlib.Core.Path.{◌≡◌, ap}
use mathlib.Core.List.{List, [], ◌∷◌, map, map-map}
use mathlib.Core.Bool.{Bool, true, false}
use mathlib.Core.Logic.{inl, inr}
use mathlib.Core.Option.{Option, none, some}
use lib.ListN.{length, length-append, length-map}
use native.Mathlib.Omega.{arith}
use Rattle.format.specs.Format.{Format, optional, many}
use Rattle.format.specs.Places.{fine}
use Rattle.charset.specs.declared.Charset.TheVariants.{Fsw, Swu}
use Rattle.charset.specs.Bytes.{after}
use Rattle.querygrammar.specs.declared.Edition.{Edition}
use Rattle.querygrammar.specs.declared.Edition.TheVariants.{First, Second}
use Rattle.querygrammar.specs.Spelling.{Item, Spelling, spelling, key_only, null_or_key, fsw_item, swu_item}
use Rattle.querygrammar.specs.Query.{others, list, ListText, SoughtText, HeadText, QueryText, coordinate, variance, prefix_list, bare_list, signbox_list, head, tail, query, Sought, alternatives_of, sought_of, prefix_of, meaning, lists_of}
use Rattle.querygrammar.specs.QueryLaws.{Text, read_query}
use Rattle.querygrammar.proofs.QueryLaws.{query_laws}
use Rattle.queryitem.specs.Pieces.{item_of}
use Rattle.queryitem.specs.Words.{row_words, rows_words, bare, words_of}
use Rattle.queryitem.proofs.Rows.{items_size}

-- every value is written with at least four bytes
abbrev Solid : {A : Type 0} → Format A → Type 0
Solid {A = A} f = (a : A) → f.Valid a → 4 ≤ length (f.write a)

-- ITEMS: in FSW S and five bytes or R and seven, in SWU one character or R and two
key_bytes : Solid (fsw_item key_only)
key_bytes (inl (inl n)) ok = omega arith
key_bytes (inl (inr k)) ok = omega arith
key_bytes (inr r) ok = omega arith

null_bytes : Solid (fsw_item null_or_key)
null_bytes (inl (inl n)) ok = omega arith
null_bytes (inl (inr k)) ok = omega arith
null_bytes (inr r) ok = omega arith

swu_bytes : (least : ℕ) → Solid (swu_item least)
swu_bytes least (inl v) ok = omega arith
swu_bytes least (inr r) ok = omega arith

pub item_bytes : (e : Edition) (boxed : Bool) (a : (spelling e).Says) → (item_of (spelling e) boxed).Valid a → 4 ≤ length ((item_of (spelling e) boxed).write a)
item_bytes First true = key_bytes
item_bytes First false = key_bytes
item_bytes (Second Fsw) true = key_bytes
item_bytes (Second Fsw) false = null_bytes
item_bytes (Second Swu) true = swu_bytes 1
item_bytes (Second Swu) false = swu_bytes 0

-- ROWS: where each has at most three words to two bytes, all have
rows_size : {A : Type 0} (f : Format A) (row : A → Sought) → ((a : A) → f.Valid a → 2 * length (row_words (row a)) ≤ 3 * length (f.write a))
    → (l : List A) → (many f).Valid l → 2 * length (rows_words (map row l)) ≤ 3 * length ((many f).write l)
rows_size f row k [] ok = omega arith
rows_size f row k (a ∷ l) ok =
    let words = length-append (row_words (row a)) (rows_words (map row l)) in
    omega (arith, k a ok.0, rows_size f row k l ok.1, words, length-append (f.write a) ((many f).write l))

-- A LIST of alternatives
module _ {A : Type 0} (means : A → Item) (f : Format A) (solid : Solid f) where
  joined_size : (l : List A) → (many (after 111 f)).Valid l → 4 * length l ≤ length ((many (after 111 f)).write l)
  joined_size [] ok = omega arith
  joined_size (a ∷ l) ok = omega (arith, solid a ok.0, joined_size l ok.1, length-append ((after 111 f).write a) ((many (after 111 f)).write l))

  others_size : (joins : Bool) (l : List A) → (others joins f).Valid l → 4 * length l ≤ length ((others joins f).write l)
  others_size false l ok = omega (arith, ap length ok)
  others_size true l ok = joined_size l ok

  list_size : (joins : Bool) (l : ListText A) (c : Option (ℕ × ℕ)) → (list joins f).Valid l
      → 2 * length (row_words (record { alternatives = alternatives_of means l; coordinate = c })) ≤ 3 * length ((list joins f).write l)
  list_size joins l c ok =
      omega (
        arith,
        solid l.0 ok.0,
        others_size joins l.1 ok.1,
        items_size (alternatives_of means l),
        length-map l.1 means,
        length-append (f.write l.0) ((others joins f).write l.1),
      )

-- A QUERY
module _ (s : Spelling) (solid : (boxed : Bool) → Solid (item_of s boxed)) where
  prefix_rows : (l : List (ListText s.Says)) → (many (prefix_list s)).Valid l
      → 2 * length (rows_words (map bare (map (alternatives_of s.means) l))) ≤ 3 * length ((many (prefix_list s)).write l)
  prefix_rows l ok =
      rw (map-map bare (alternatives_of s.means) l)
      (rows_size (prefix_list s) (λ a. bare (alternatives_of s.means a))
      (λ a k. list_size s.means s.prefix_item (solid false) s.joins a none k) l ok)

  head_rows : (h : Option (HeadText s.Says)) → (optional (head s)).Valid h
      → 2 * length (rows_words (map bare (lists_of (prefix_of s.means h)))) ≤ 3 * length ((optional (head s)).write h)
  head_rows none ok = omega arith
  head_rows (some (inl t)) ok = omega arith
  head_rows (some (inr p)) ok =
      let lists = (many (prefix_list s)).write (p.0.0 ∷ p.0.1) in
      omega (arith, prefix_rows (p.0.0 ∷ p.0.1) ok.0, length-append lists (p.1 ∷ []))

  sought_size : (a : SoughtText s.Says) → (signbox_list s).Valid a → 2 * length (row_words (sought_of s.means a)) ≤ 3 * length ((signbox_list s).write a)
  sought_size a ok =
      omega (
        arith,
        list_size s.means s.signbox_item (solid true) s.joins a.0 a.1 ok.0,
        length-append ((bare_list s).write a.0) ((optional (coordinate s)).write a.1),
      )

  pub query_size : (t : QueryText s.Says) → (query s).Valid t → 2 * length (words_of (meaning s.means t)) ≤ 8 + 3 * length ((query s).write t)
  unfolding words_of
  query_size t ok =
      let lists = (many (signbox_list s)).write t.1.0 in
      let rows = rows_words (map bare (lists_of (prefix_of s.means t.0))) in
      omega (
        arith,
        head_rows t.0 ok.0,
        rows_size (signbox_list s) (sought_of s.means) sought_size t.1.0 ok.1.0,
        length-append rows (rows_words (map (sought_of s.means) t.1.0)),
        length-append ((optional (head s)).write t.0) ((tail s).write t.1),
        length-append lists (variance.write t.1.1),
      )

-- what is read, written again, is the text
pub text_size : (e : Edition) (s : List ℕ) (t : Text e) → read_query e s ≡ fine t → 2 * length (words_of (meaning (spelling e).means t)) ≤ 8 + 3 * length s
text_size e s t r = let k = (query_laws e).writes s t r in rw k.1 (query_size (spelling e) (item_bytes e) t k.0)
