-- The limits of a query as tests, and what each of them refuses.
use Prim.Native.Nat.{ℕ, ◌≤◌}
use mathlib.Core.Path.{◌≡◌, refl, sym, ap}
use mathlib.Core.List.{List}
use mathlib.Core.Bool.{Bool, true, ◌&&◌, and-eq-true_iff}
use mathlib.Core.Logic.Iff
use mathlib.Core.Logic.{◌↔◌}
use mathlib.Core.Option.{Option, none, some}
use lib.Dec.{leb}
use lib.ListN.{length}
use native.Mathlib.Omega.{arith}
use borrow.Author.Tests.{leb-true, le-leb}
use Rattle.format.specs.Format.{All, every}
use Rattle.format.proofs.Lists.{all_weaker, every_all, all_every}
use Rattle.token.specs.Refusal.{prefix_long, signbox_long, alternatives_long, range_reversed}
use Rattle.token.specs.Result.{Result, refusal, done, check}
use Rattle.token.proofs.Checks.{refusal_done, check_done}
use Rattle.token.proofs.Results.{same_done}
use Rattle.token.proofs.Exactly.{Never, done_never, refusal_never, check_never, check_case, passes, stops}
use Rattle.querygrammar.specs.Spelling.{Item}
use Rattle.querygrammar.specs.Query.{Query, lists_of, sought_lists}
use Rattle.querypart.specs.Inner.{few}
use Rattle.query.specs.Reading.{in_order_of, limited}
use Rattle.query.specs.ReadingLaws.{PrefixFits, SignboxFits, AlternativesFit}

-- THE ORDER

order_done : (o : Option ℕ) (p q : Query) → in_order_of o p ≡ done q → (p ≡ q) × (o ≡ none)
order_done none p q e = (same_done e, refl)
order_done (some at) p q e = refusal_done range_reversed at e

order_refused : (o : Option ℕ) (q : Query) (p : ℕ) → (in_order_of o q ≡ refusal range_reversed p) ↔ (o ≡ some p)
order_refused none q p = (λ e. refusal_done range_reversed p (sym e), λ e. absurd (let z : ◌≡◌ {A = ℕ} 0 1 = cc in omega arith))
order_refused (some at) q p = (λ e. (let z : at ≡ p = cc in ap some z), λ e. (let z : at ≡ p = cc in ap (refusal range_reversed) z))

order_never : (o : Option ℕ) (q : Query) (k : ℕ) → (range_reversed ≡ k → ⊥) → Never k (in_order_of o q)
order_never none q k h = done_never k q
order_never (some at) q k h = refusal_never range_reversed k at h

-- THE LIMITS

pub few_tells : (l : List (List Item)) → (every few l ≡ true) ↔ All (λ a. length a ≤ 8) l
few_tells l = (
  λ e. all_weaker (λ a. few a ≡ true) (λ a. length a ≤ 8) (λ a. leb-true (length a) 8) l (every_all few l e),
  λ k. all_every few l (all_weaker (λ a. length a ≤ 8) (λ a. few a ≡ true) (λ a. le-leb (length a) 8) l k),
)

module _ (q : Query) where
  abbrev prefix_test : Bool
  prefix_test = leb (length (lists_of q.prefix)) 32

  abbrev signbox_test : Bool
  signbox_test = leb (length q.items) 32

  abbrev alternatives_test : Bool
  alternatives_test = every few (lists_of q.prefix) && every few (sought_lists q)

  prefix_tells : (prefix_test ≡ true) ↔ PrefixFits q
  prefix_tells = (leb-true _ 32, le-leb _ 32)

  signbox_tells : (signbox_test ≡ true) ↔ SignboxFits q
  signbox_tells = (leb-true _ 32, le-leb _ 32)

  alternatives_tells : (alternatives_test ≡ true) ↔ AlternativesFit q
  alternatives_tells =
      Iff.trans (and-eq-true_iff (every few (lists_of q.prefix)) (every few (sought_lists q))) (Iff.and (few_tells (lists_of q.prefix)) (few_tells (sought_lists q)))

-- what passed all of them
pub record Passed (p q : Query) (o : Option ℕ) : Type 0 where
  pub same : p ≡ q
  pub prefix_fits : PrefixFits p
  pub signbox_fits : SignboxFits p
  pub alternatives_fit : AlternativesFit p
  pub in_order : o ≡ none

pub limited_passed : (p q : Query) (o : Option ℕ) → limited p o ≡ done q → Passed p q o
limited_passed p q o e =
    let a = check_done (prefix_test p) prefix_long 0 _ e in
    let b = check_done (signbox_test p) signbox_long 0 _ a.1 in
    let c = check_done (alternatives_test p) alternatives_long 0 _ b.1 in
    let d = order_done o p q c.1 in
    record {
      same = d.0;
      prefix_fits = (prefix_tells p).0 a.0;
      signbox_fits = (signbox_tells p).0 b.0;
      alternatives_fit = (alternatives_tells p).0 c.0;
      in_order = d.1;
    }

pub passed_limited : (p q : Query) (o : Option ℕ) → Passed p q o → limited p o ≡ done q
passed_limited p q o w = rw ((prefix_tells p).1 w.prefix_fits, (signbox_tells p).1 w.signbox_fits, (alternatives_tells p).1 w.alternatives_fit, w.in_order) (ap done w.same)

module _ (q : Query) (o : Option ℕ) where
  -- what is checked after each limit
  abbrev after_alternatives : Result Query
  after_alternatives = in_order_of o q

  abbrev after_signbox : Result Query
  after_signbox = check (alternatives_test q) alternatives_long 0 after_alternatives

  abbrev after_prefix : Result Query
  after_prefix = check (signbox_test q) signbox_long 0 after_signbox

  -- one of them refuses, or the order decides
  pub limited_case : (P : Result Query → Type 0) → P (refusal prefix_long 0) → P (refusal signbox_long 0) → P (refusal alternatives_long 0) → P (in_order_of o q) → P (limited q o)
  limited_case P a b c d =
      check_case P (prefix_test q) prefix_long 0 after_prefix a
      (check_case P (signbox_test q) signbox_long 0 after_signbox b (check_case P (alternatives_test q) alternatives_long 0 after_alternatives c d))

  -- a number that none of them gives
  pub limited_never : (k : ℕ) → (prefix_long ≡ k → ⊥) → (signbox_long ≡ k → ⊥) → (alternatives_long ≡ k → ⊥) → (range_reversed ≡ k → ⊥) → Never k (limited q o)
  limited_never k a b c d =
      limited_case (Never k) (refusal_never prefix_long k 0 a) (refusal_never signbox_long k 0 b) (refusal_never alternatives_long k 0 c) (order_never o q k d)

  module _ (p : ℕ) where
    pub limited_3 : (limited q o ≡ refusal prefix_long p) ↔ ((PrefixFits q → ⊥) × (p ≡ 0))
    limited_3 =
        stops (prefix_test q) (prefix_tells q) prefix_long 0 p after_prefix
        (check_never (signbox_test q) signbox_long prefix_long 0 after_signbox (λ e. omega arith)
        (check_never (alternatives_test q) alternatives_long prefix_long 0 after_alternatives (λ e. omega arith) (order_never o q prefix_long (λ e. omega arith))))

    pub limited_4 : (limited q o ≡ refusal signbox_long p) ↔ (PrefixFits q × ((SignboxFits q → ⊥) × (p ≡ 0)))
    limited_4 =
        passes (prefix_test q) (prefix_tells q) prefix_long signbox_long 0 p after_prefix (λ e. omega arith)
        (stops (signbox_test q) (signbox_tells q) signbox_long 0 p after_signbox
        (check_never (alternatives_test q) alternatives_long signbox_long 0 after_alternatives (λ e. omega arith) (order_never o q signbox_long (λ e. omega arith))))

    pub limited_22 : (limited q o ≡ refusal alternatives_long p) ↔ (PrefixFits q × (SignboxFits q × ((AlternativesFit q → ⊥) × (p ≡ 0))))
    limited_22 =
        passes (prefix_test q) (prefix_tells q) prefix_long alternatives_long 0 p after_prefix (λ e. omega arith)
        (passes (signbox_test q) (signbox_tells q) signbox_long alternatives_long 0 p after_signbox (λ e. omega arith)
        (stops (alternatives_test q) (alternatives_tells q) alternatives_long 0 p after_alternatives (order_never o q alternatives_long (λ e. omega arith))))

    pub limited_5 : {Q : Type 0} → (o ≡ some p) ↔ Q → (limited q o ≡ refusal range_reversed p) ↔ (PrefixFits q × (SignboxFits q × (AlternativesFit q × Q)))
    limited_5 there =
        passes (prefix_test q) (prefix_tells q) prefix_long range_reversed 0 p after_prefix (λ e. omega arith)
        (passes (signbox_test q) (signbox_tells q) signbox_long range_reversed 0 p after_signbox (λ e. omega arith)
        (passes (alternatives_test q) (alternatives_tells q) alternatives_long range_reversed 0 p after_alternatives (λ e. omega arith) (Iff.trans (order_refused o q p) there)))
