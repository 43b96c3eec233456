-- Where the numbers of a query in FSW stand, and so its places.
use Prim.Native.Nat.{ℕ}
use mathlib.Core.List.{List, [], ◌∷◌, ◌++◌, append_assoc}
use mathlib.Core.Path.{◌≡◌, refl, ap}
use mathlib.Core.Logic.{inl, inr}
use mathlib.Core.Option.{none, some}
use native.Mathlib.Omega.{arith}
use Rattle.format.specs.Format.{value, other, Format, atomic, maybe, sequence, optional, many}
use Rattle.format.specs.Numbers.{After, ByNumbers}
use Rattle.format.proofs.Many.{step}
use Rattle.format.proofs.Numbered.{Led, past, Numbered, mapped_numbered, optional_numbered, after_numbered, first_numbered, many_numbered}
use Rattle.format.proofs.NumberPlaces.{by_numbers}
use Rattle.charset.specs.Bytes.{byte}
use Rattle.charset.specs.Tokens.{fsw_number}
use Rattle.charset.proofs.Coding.{byte_exact}
use Rattle.charset.proofs.Keys.{number_strict}
use Rattle.charset.proofs.Numbers.{before}
use Rattle.charset.proofs.Units.{after_inverse}
use Rattle.grammar.specs.SignLaws.{PointNumber}
use Rattle.grammar.proofs.SignPlaces.{not_digit, point_numbered}
use Rattle.querygrammar.specs.Spelling.{Spelling}
use Rattle.querygrammar.specs.Query.{figures, variance, coordinate, bare_list, signbox_list, head, tail, after_q, query}
use Rattle.querygrammar.specs.QueryLaws.{QueryNumber}
use Rattle.querygrammar.proofs.Lists.{Starts, Apart, Later, Laws, many_starts}
use Rattle.querygrammar.proofs.Items.{number_apart, LawfulSpelling}
use Rattle.querygrammar.proofs.Query.{bare_list_laws, signbox_list_laws, bare_list_exact, variance_exact, optional_head_exact, head_follow, query_lawful, query_ready}
use Rattle.querygrammar.proofs.ExactQuery.{signbox_list_exact, signbox_lists_exact, tail_exact, after_q_exact, exact_point, with_number, exactly, exactly_lawful, fsw_exact}

-- a number begins with a digit, and so does what stands before one in a coordinate
led_apart : (start : List ℕ) → Led start → Starts Apart start
led_apart [] h = tt
led_apart (b ∷ start) h = ((λ e. omega (arith, h.1, e), λ e. omega (arith, h.1, e)), λ e. omega (arith, h.1, e))

point_apart : (y start : List ℕ) → PointNumber y → Led start → Starts Apart (y ++ start)
point_apart y start (inl e) h = rw e (led_apart start h)
point_apart y start (inr w) h = rw w.3 (number_apart w.0 (w.1 ++ start) w.2)

-- the variance has no coordinate
variance_past : (start : List ℕ) → Led start → variance.read start ≡ value none start
variance_past start h = ap (λ r. maybe none start r λ a rest. value (some a) rest) (not_digit 86 figures (omega arith) start h)

-- no list begins with a digit
list_shut : {P : ℕ → Type 0} {A : Type 0} (f : Format A) → Laws P f → (start : List ℕ) → Led start → f.read start ≡ other
list_shut f l [] h = absurd h
list_shut f l (b ∷ start) h = l.strange b start (λ e. omega (arith, h.1, e)) (λ e. omega (arith, h.1, e)) (λ e. omega (arith, h.1, e))

abbrev told : Spelling → Spelling
told = with_number (atomic fsw_number)

module _ (s : Spelling) (l : LawfulSpelling (told s)) where
  abbrev x : LawfulSpelling (exactly s)
  x = exactly_lawful (told s) l

  abbrev ListNumber : List ℕ → Type 0
  ListNumber = After (bare_list s) PointNumber

  abbrev ListsNumber : List ℕ → Type 0
  ListsNumber = After (many (signbox_list (told s))) ListNumber

  list_numbered : Numbered fsw_number ListNumber (signbox_list (exactly s)) (signbox_list (told s)).read
  list_numbered =
      after_numbered fsw_number PointNumber (bare_list s) (optional (coordinate (exactly s))) (optional (coordinate (told s))).read (bare_list_exact (told s) l)
      (record { says = none; valid = tt; more = []; is = refl })
      (optional_numbered fsw_number PointNumber (coordinate (exactly s)) (coordinate (told s)).read point_numbered)
      (λ a y ok d start h. (bare_list_laws (told s) l).follows a (y ++ start) ok (point_apart y start d h))

  -- before a number stands a list
  number_later : (y start : List ℕ) → ListsNumber y → Starts Later (y ++ start)
  number_later y start w =
      let i = w.4 in
      rw (w.3, append_assoc ((many (signbox_list (told s))).write w.0) w.1 start)
      (many_starts (signbox_list (exactly s)) (signbox_list_laws (exactly s) x) (λ x k. k) w.0 (w.1 ++ start) w.2
      (rw (i.3, append_assoc ((bare_list s).write i.0) i.1 start) ((bare_list_laws (told s) l).starts i.0 (i.1 ++ start) i.2)))

  lists_numbered : Numbered fsw_number ListsNumber (many (signbox_list (exactly s))) (many (signbox_list (told s))).read
  lists_numbered =
      let t = signbox_list_laws (told s) l in
      let e = signbox_list_laws (exactly s) x in
      many_numbered fsw_number ListNumber (signbox_list (exactly s)) (signbox_list (told s)).read (signbox_list_exact (exactly s) x exact_point) list_numbered
      e.opens.solid (step 1 (signbox_list (told s)) t.opens.lawful t.opens.solid)
      (λ a y ok c start h. e.follows a (y ++ start) ok (number_later y start c))
      (λ start h. (list_shut (signbox_list (exactly s)) e start h, list_shut (signbox_list (told s)) t start h))

  tail_numbered : Numbered fsw_number ListsNumber (tail (exactly s)) (tail (told s)).read
  tail_numbered =
      first_numbered fsw_number ListsNumber (many (signbox_list (exactly s))) (many (signbox_list (told s))).read variance
      (signbox_lists_exact (exactly s) x exact_point) variance_exact.some lists_numbered (λ start h. past none (variance_past start h))

  after_q_numbered : Numbered fsw_number (After (optional (head s)) ListsNumber) (after_q (exactly s)) (after_q (told s)).read
  after_q_numbered =
      after_numbered fsw_number ListsNumber (optional (head s)) (tail (exactly s)) (tail (told s)).read (optional_head_exact (told s) l)
      (tail_exact (exactly s) x exact_point).some tail_numbered (λ a y ok d start h. head_follow (told s) l a (y ++ start) ok (number_later y start d))

  query_numbered : Numbered fsw_number (QueryNumber (told s)) (query (exactly s)) (query (told s)).read
  query_numbered =
      mapped_numbered fsw_number (QueryNumber (told s)) (sequence (byte 81) λ a. after_q (exactly s)) (sequence (byte 81) (λ a. after_q (told s))).read
      (λ p. p.1) (λ v. (81, v)) (after_q (exactly s)).Valid (after_inverse 81 (after_q (exactly s)))
      (after_numbered fsw_number (After (optional (head s)) ListsNumber) (byte 81) (after_q (exactly s)) (after_q (told s)).read (byte_exact 81)
      (after_q_exact (exactly s) x exact_point).some after_q_numbered (λ a y ok d start h. tt))

  -- THE LAW OF PLACES of queries in FSW
  pub fsw_places : ByNumbers fsw_number (query (told s)) (QueryNumber (told s))
  fsw_places =
      by_numbers fsw_number number_strict.exact (λ n ok. refl) before (QueryNumber (told s)) (query (exactly s)) (query (told s)) (fsw_exact (told s) l)
      (query_lawful (told s) l) (query_ready (exactly s) x) (λ v. refl) (λ v ok. ok) (λ v ok. ok) query_numbered
