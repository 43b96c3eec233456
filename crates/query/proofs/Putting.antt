-- Words that are put one after the other, and the limits.
use Prim.Native.Nat.{ℕ, suc, ◌+◌, ◌-◌, ◌≤◌}
use mathlib.Core.List.{List, [], ◌∷◌, ◌++◌, map}
use mathlib.Core.Path.{◌≡◌, refl, ap, ◌∙◌}
use mathlib.Core.Bool.{Bool, true, false, not, ◌&&◌}
use mathlib.Core.Option.{Option, none, some}
use Rattle.std.specs.Prelude.{Option as Optional}
use lib.Dec.{leb}
use lib.ListN.{length}
use lib.Seq.{sets}
use native.Mathlib.Omega.{arith}
use borrow.Author.Tests.{leb-true}
use Rattle.format.specs.Format.{every}
use Rattle.token.specs.Refusal.{prefix_long, signbox_long, alternatives_long}
use Rattle.token.specs.Result.{done, check}
use Rattle.token.specs.Padded.{padded, zeros}
use Rattle.token.proofs.PaddedLists.{padded_none, sets_append, sets_padded}
use Rattle.querygrammar.specs.Query.{Query, lists_of, sought_lists, kind_of}
use Rattle.queryitem.specs.Words.{rows_words, bare, words_of}
use Rattle.queryitem.specs.Numbers.{optionally}
use Rattle.querypart.specs.Inner.{few}
use Rattle.query.specs.Reading.{in_order_of, limited}
use Rattle.query.specs.Inner.{passed, ordered, limits}

-- THE WORDS

-- rows after four words that are not put yet, and then these
head_more : (n a b c d : ℕ) (rows : List ℕ) → sets (sets (zeros (suc (suc (suc (suc n))))) 4 rows) 0 (a ∷ b ∷ c ∷ d ∷ []) ≡ padded (suc (suc (suc (suc n)))) (a ∷ b ∷ c ∷ d ∷ rows)
unfolding padded
head_more n a b c d rows =
    let z : List ℕ = 0 ∷ 0 ∷ 0 ∷ 0 ∷ [] in
    let k : ℕ = suc (suc (suc (suc n))) in
    ap (λ l. sets l 0 (a ∷ b ∷ c ∷ d ∷ [])) (ap (λ l. sets l 4 rows) (padded_none k) ∙ sets_padded k rows z)

head_put : (n a b c d : ℕ) (rows : List ℕ) → 4 ≤ n → sets (sets (zeros n) 4 rows) 0 (a ∷ b ∷ c ∷ d ∷ []) ≡ padded n (a ∷ b ∷ c ∷ d ∷ rows)
head_put n a b c d rows h = let e : n ≡ suc (suc (suc (suc (n - 4)))) = omega (arith, h) in rw e (head_more (n - 4) a b c d rows)

-- the rows of the prefix, those of the signbox, and the first four words
pub query_put : (n : ℕ) (q : Query) (before row : ℕ) (o : List ℕ) → 4 ≤ n → before ≡ length (lists_of q.prefix)
    → o ≡ sets (zeros n) 4 (rows_words (map bare (lists_of q.prefix))) → row ≡ 4 + length (rows_words (map bare (lists_of q.prefix)))
    → sets (sets o row (rows_words q.items)) 0 (kind_of q.prefix ∷ before ∷ length q.items ∷ q.variance ∷ []) ≡ padded n (words_of q)
unfolding words_of
query_put n q before row o h c e k =
    let first = rows_words (map bare (lists_of q.prefix)) in
    let then = rows_words q.items in
    (λ i. sets (sets (e i) (k i) then) 0 (kind_of q.prefix ∷ c i ∷ length q.items ∷ q.variance ∷ []))
    ∙ ap (λ l. sets l 0 (kind_of q.prefix ∷ length (lists_of q.prefix) ∷ length q.items ∷ q.variance ∷ [])) (sets_append first then (zeros n) 4)
    ∙ head_put n (kind_of q.prefix) (length (lists_of q.prefix)) (length q.items) q.variance (first ++ then) h

-- THE LIMITS

-- what is within the limits
pub record Within (before count : ℕ) (crowded : Bool) : Type 0 where
  pub prefix : before ≤ 32
  pub signbox : count ≤ 32
  pub alternatives : crowded ≡ false

pub limits_passed : (before count : ℕ) (crowded : Bool) (reversed : Optional ℕ) → limits before count crowded reversed ≡ done tt → Within before count crowded
limits_passed before count crowded reversed e = go (leb before 32) (leb count 32) crowded refl refl refl e
  where
    go : (s t u : Bool) → leb before 32 ≡ s → leb count 32 ≡ t → crowded ≡ u
        → check s prefix_long 0 (check t signbox_long 0 (check (not u) alternatives_long 0 (ordered reversed))) ≡ done tt → Within before count crowded
    go true true false a b c e = record { prefix = leb-true before 32 a; signbox = leb-true count 32 b; alternatives = c }
    go true true true a b c e = absurd (cc e)
    go true false u a b c e = absurd (cc e)
    go false t u a b c e = absurd (cc e)

-- they answer as the query is refused
pub limits_same : (q : Query) (o : Option ℕ) (crowded : Bool) → not crowded ≡ every few (lists_of q.prefix) && every few (sought_lists q)
    → limits (length (lists_of q.prefix)) (length q.items) crowded (optionally o) ≡ passed (limited q o)
limits_same q o crowded c =
    ap (λ t. check (leb (length (lists_of q.prefix)) 32) prefix_long 0 (check (leb (length q.items) 32) signbox_long 0 (check t alternatives_long 0 (ordered (optionally o))))) c
    ∙ both (leb (length (lists_of q.prefix)) 32) (leb (length q.items) 32) (every few (lists_of q.prefix) && every few (sought_lists q)) o
  where
    both : (s t u : Bool) (o : Option ℕ)
        → check s prefix_long 0 (check t signbox_long 0 (check u alternatives_long 0 (ordered (optionally o)))) ≡ passed (check s prefix_long 0 (check t signbox_long 0 (check u alternatives_long 0 (in_order_of o q))))
    both true true true none = refl
    both true true true (some at) = refl
    both true true false o = refl
    both true false u o = refl
    both false t u o = refl
