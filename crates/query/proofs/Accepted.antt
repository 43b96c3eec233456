-- A query that was accepted: its items are valid and within the limits, so that its words have room; and what is within the limits is
-- accepted.
use Prim.Native.Nat.{ℕ}
use mathlib.Core.Path.{◌≡◌, refl, ap, ◌∙◌}
use mathlib.Core.List.{List, map}
use mathlib.Core.Bool.{Bool, true, false}
use mathlib.Core.Logic.{inl, inr}
use mathlib.Core.Option.{Option, none, some}
use lib.ListN.{length}
use Rattle.format.specs.Format.{Format, All, Any}
use Rattle.format.specs.Places.{fine}
use Rattle.format.proofs.Lists.{all_map, all_weaker}
use Rattle.charset.specs.declared.Charset.TheVariants.{Fsw, Swu}
use Rattle.grammar.specs.Sign.{Number}
use Rattle.token.specs.Result.{done, and_then, of_outcome}
use Rattle.token.proofs.Checks.{and_then_done}
use Rattle.token.proofs.Results.{outcome_done}
use Rattle.querygrammar.specs.declared.Edition.{Edition}
use Rattle.querygrammar.specs.declared.Edition.TheVariants.{First, Second}
use Rattle.querygrammar.specs.Spelling.{Item, Spelling, spelling}
use Rattle.querygrammar.specs.Query.{others, list, ListText, SoughtText, HeadText, coordinate, prefix_list, signbox_list, head, query, Query, alternatives_of, sought_of, prefix_of, lists_of, ValidItem, ValidSought, ValidQuery}
use Rattle.querygrammar.specs.QueryLaws.{Text, read_query}
use Rattle.querygrammar.proofs.QueryLaws.{query_laws}
use Rattle.queryitem.specs.Pieces.{item_of}
use Rattle.queryitem.proofs.Rows.{words_room}
use Rattle.querypart.specs.Spots.{first_reversed}
use Rattle.querypart.proofs.Valid.{item_valid}
use Rattle.query.specs.Reading.{spots_of, limited, query_of}
use Rattle.query.specs.ReadingLaws.{meant, InLimits, Accepted}
use Rattle.query.proofs.Reversed.{none_reversed}
use Rattle.query.proofs.Limits.{limited_passed, passed_limited}

-- VALID ITEMS

all_mapped : {A B : Type 0} (P : A → Type 0) (Q : B → Type 0) (f : A → B) → ((a : A) → P a → Q (f a)) → (l : List A) → All P l → All Q (map f l)
all_mapped P Q f k l ok = all_map Q f l (all_weaker P (λ a. Q (f a)) k l ok)

others_valid : {A : Type 0} (f : Format A) (joins : Bool) (l : List A) → (others joins f).Valid l → All f.Valid l
others_valid f false l ok = rw ok tt
others_valid f true l ok = ok

point_valid : (e : Edition) (p : ℕ × ℕ) → (coordinate (spelling e)).Valid p → Number p.0 × Number p.1
point_valid First p ok = ok
point_valid (Second Fsw) p ok = ok
point_valid (Second Swu) p ok = ok

-- what holds of every item that is written holds of every item of the query
module _ (e : Edition) (P : Bool → Item → Type 0)
    (each : (boxed : Bool) (v : (spelling e).Says) → (item_of (spelling e) boxed).Valid v → P boxed ((spelling e).means v)) where
  abbrev s : Spelling
  s = spelling e

  pub list_holds : (boxed : Bool) (v : ListText s.Says) → (list s.joins (item_of s boxed)).Valid v → All (P boxed) (alternatives_of s.means v)
  list_holds boxed v ok =
      let f = item_of s boxed in
      (each boxed v.0 ok.0, all_mapped f.Valid (P boxed) s.means (each boxed) v.1 (others_valid f s.joins v.1 ok.1))

  pub prefix_holds : (h : Option (HeadText s.Says)) → Any (head s).Valid h → All (All (P false)) (lists_of (prefix_of s.means h))
  prefix_holds none ok = tt
  prefix_holds (some (inl t)) ok = tt
  prefix_holds (some (inr p)) ok =
      (list_holds false p.0.0 ok.0.0, all_mapped (prefix_list s).Valid (All (P false)) (alternatives_of s.means) (list_holds false) p.0.1 ok.0.1)

  pub signbox_holds : (l : List (SoughtText s.Says)) → All (signbox_list s).Valid l → All (All (P true)) (map (λ s. s.alternatives) (map (sought_of s.means) l))
  signbox_holds l ok =
      all_map (All (P true)) (λ s. s.alternatives) (map (sought_of s.means) l)
      (all_mapped (signbox_list s).Valid (λ q. All (P true) q.alternatives) (sought_of s.means) (λ v k. list_holds true v.0 k.0) l ok)

module _ (e : Edition) where
  abbrev Valid : Bool → Item → Type 0
  Valid boxed = ValidItem

  sought_valid : (v : SoughtText (spelling e).Says) → (signbox_list (spelling e)).Valid v → ValidSought (sought_of (spelling e).means v)
  sought_valid (l, none) ok = (list_holds e Valid (item_valid e) true l ok.0, tt)
  sought_valid (l, some p) ok = (list_holds e Valid (item_valid e) true l ok.0, point_valid e p ok.1)

  query_valid : (t : Text e) → (query (spelling e)).Valid t → ValidQuery (meant e t)
  query_valid t ok = record {
    prefix = prefix_holds e Valid (item_valid e) t.0 ok.0;
    items = all_mapped (signbox_list (spelling e)).Valid ValidSought (sought_of (spelling e).means) sought_valid t.1.0 ok.1.0;
  }

-- ALL OF IT

-- the text of a query that was accepted
pub record Read (e : Edition) (text : List ℕ) (q : Query) : Type 0 where
  pub says : Text e
  pub is : read_query e text ≡ fine says
  pub valid : (query (spelling e)).Valid says
  pub same : meant e says ≡ q
  pub limits : InLimits (meant e says)

pub query_read : (e : Edition) (text : List ℕ) (q : Query) → query_of e text ≡ done q → Read e text q
unfolding query_of
query_read e text q z =
    let d = and_then_done (of_outcome (length text) (read_query e text)) _ z in
    let t = d.0 in
    let is = outcome_done (length text) (read_query e text) t d.1.0 in
    let p = limited_passed (meant e t) q (first_reversed (spots_of (spelling e) t)) d.1.1 in
    record {
      says = t;
      is = is;
      valid = ((query_laws e).writes text t is).0;
      same = p.same;
      limits = record {
        prefix_fits = p.prefix_fits;
        signbox_fits = p.signbox_fits;
        alternatives_fit = p.alternatives_fit;
        none_reversed = (none_reversed e t).0 p.in_order;
      };
    }

pub query_accepted : (e : Edition) (text : List ℕ) (q : Query) → query_of e text ≡ done q → Accepted q
query_accepted e text q z =
    let k = query_read e text q z in
    let l = k.limits in
    rw (← k.same)
    (record {
      valid = query_valid e k.says k.valid;
      prefix_most = l.prefix_fits;
      items_most = l.signbox_fits;
      alternatives_most = l.alternatives_fit;
      limits = l;
      room = words_room (meant e k.says) l.prefix_fits l.signbox_fits l.alternatives_fit.0 l.alternatives_fit.1;
    })

pub query_accepts : (e : Edition) (t : Text e) → (query (spelling e)).Valid t → InLimits (meant e t) → query_of e ((query (spelling e)).write t) ≡ done (meant e t)
unfolding query_of
query_accepts e t ok l =
    let text = (query (spelling e)).write t in
    ap (λ o. and_then (of_outcome (length text) o) λ t. limited (meant e t) (first_reversed (spots_of (spelling e) t))) ((query_laws e).reads t ok)
    ∙ passed_limited (meant e t) (meant e t) (first_reversed (spots_of (spelling e) t))
    (record {
      same = refl;
      prefix_fits = l.prefix_fits;
      signbox_fits = l.signbox_fits;
      alternatives_fit = l.alternatives_fit;
      in_order = (none_reversed e t).1 l.none_reversed;
    })
