-- The laws of reading a query.
use Prim.Native.Nat.{ℕ}
use mathlib.Core.List.{List}
use mathlib.Core.Path.{◌≡◌, refl}
use lib.ListN.{length}
use native.Mathlib.Omega.{arith}
use Rattle.format.specs.Format.{All}
use Rattle.format.specs.Places.{Outcome, fine, refused, ends_short}
use Rattle.token.specs.Refusal.{range_reversed}
use Rattle.token.specs.Result.{Result, refusal, done, and_then, of_outcome}
use Rattle.token.proofs.Checks.{Counted}
use Rattle.querygrammar.specs.declared.Edition.{Edition}
use Rattle.querygrammar.specs.Spelling.{spelling}
use Rattle.querygrammar.specs.Query.{Query}
use Rattle.querygrammar.specs.QueryLaws.{Text, read_query}
use Rattle.querygrammar.proofs.QueryLaws.{query_laws}
use Rattle.querypart.specs.Spots.{first_reversed}
use Rattle.query.specs.Reading.{spots_of, limited, query_of, reading_of}
use Rattle.query.specs.ReadingLaws.{meant, Stands, FirstReversed, ReadingLaws}
use Rattle.query.proofs.Answers.{query_counted}
use Rattle.query.proofs.Spots.{spots_items, spots_stand}
use Rattle.query.proofs.Reversed.{first_reversed_lem}
use Rattle.query.proofs.Limits.{limited_5}
use Rattle.query.proofs.Accepted.{query_accepted, query_accepts}
use Rattle.query.proofs.Nulls.{signbox_without_null}

place_zero : (r : Result Query) → Counted r → (reading_of r).number ≡ 0 → (reading_of r).place ≡ 0
unfolding reading_of
place_zero (refusal n p) k e = absurd (omega (arith, k n p refl, e))
place_zero (done q) k e = refl

module _ (e : Edition) where
  stand : (text : List ℕ) (t : Text e) → read_query e text ≡ fine t → All (Stands (spelling e) text) (spots_of (spelling e) t)
  stand text t r = let w = (query_laws e).writes text t r in spots_stand (spelling e) text t w.0 w.1

  module _ (text : List ℕ) (p : ℕ) where
    abbrev Reversed : Type 0
    Reversed = (t : Text e) × ((read_query e text ≡ fine t) × FirstReversed e text t p)

    reversed_go : (o : Outcome (Text e)) → read_query e text ≡ o
        → and_then (of_outcome (length text) o) (λ t. limited (meant e t) (first_reversed (spots_of (spelling e) t))) ≡ refusal range_reversed p → Reversed
    reversed_go (fine t) r z =
        let limits = limited_5 (meant e t) (first_reversed (spots_of (spelling e) t)) p (first_reversed_lem e text p t (stand text t r)) in
        (t, (r, (limits.0 z).1.1.1))
    reversed_go (refused at) r z = absurd (let k : ◌≡◌ {A = ℕ} 1 5 = cc in omega arith)
    reversed_go ends_short r z = absurd (let k : ◌≡◌ {A = ℕ} 2 5 = cc in omega arith)

    reversed_at : query_of e text ≡ refusal range_reversed p → Reversed
    unfolding query_of
    reversed_at z = reversed_go (read_query e text) refl z

  pub reading_laws : ReadingLaws e
  reading_laws = record {
    done_place = λ text z. place_zero (query_of e text) (query_counted e text) z;
    counted = λ text number place q z. omega (arith, query_counted e text number place q, z);
    accepted = query_accepted e;
    accepts = query_accepts e;
    signbox_null = signbox_without_null e;
    items = spots_items (spelling e);
    stand = stand;
    reversed_at = reversed_at;
  }
