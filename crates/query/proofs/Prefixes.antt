-- What asks for a prefix: one law for each return.
use Prim.Native.Nat.{ℕ, ◌+◌, ◌≤◌, ◌<◌}
use mathlib.Core.List.{List, [], ◌∷◌, map}
use mathlib.Core.Path.{◌≡◌, refl, sym, ap, ◌∙◌}
use mathlib.Core.Bool.{false, not}
use mathlib.Core.Logic.{inl, inr}
use mathlib.Core.Option.{Option, none, some}
use lib.ListN.{length, length-map}
use lib.Seq.{sets}
use native.Mathlib.Omega.{arith}
use borrow.Author.Tests.{lt-ltb, le-ltb}
use Rattle.format.specs.Format.{Format, optional, many, every}
use Rattle.format.specs.Located.{Located, found, wrong_at, short_here, locate, and_then, on_found}
use Rattle.format.proofs.At.{got, delimited_got, sequence_at_got}
use Rattle.format.proofs.Ends.{one_or_more, one_or_more_lem}
use Rattle.charset.specs.Bytes.{byte}
use Rattle.charset.proofs.Units.{byte_delimited}
use Rattle.std.specs.Prelude.{Result as Answer, Ok, Err}
use Rattle.token.specs.declared.refusal.Refusal.{Refusal}
use Rattle.token.specs.declared.refusal.Refusal.TheVariants.{TextWrong, TextShort}
use Rattle.token.specs.Token.{token_at}
use Rattle.token.specs.Result.{of_outcome}
use Rattle.querygrammar.specs.declared.Edition.{Edition}
use Rattle.querygrammar.specs.Spelling.{Item, spelling}
use Rattle.querygrammar.specs.Query.{ListText, HeadText, prefix_list, some_lists, head, query, alternatives_of}
use Rattle.querygrammar.proofs.Items.{lawful}
use Rattle.querygrammar.proofs.Query.{prefix_list_laws, some_lists_lawful}
use Rattle.queryitem.specs.Words.{rows_words, bare}
use Rattle.queryitem.proofs.Chains.{byte_there, FailsAs, token_fails}
use Rattle.querypart.specs.declared.items.Count.{Count}
use Rattle.querypart.specs.Spots.{all_spots}
use Rattle.querypart.specs.Inner.{first_of, item, few, all_words, ItemsIn}
use Rattle.querypart.proofs.Lists.{fails_on, fails_in}
use Rattle.query.specs.declared.words.Asked.{Asked}
use Rattle.query.specs.declared.words.Asked.TheVariants.{Free, Present}
use Rattle.query.specs.Inner.{Blank, word_of, no_items, Asks, Opened, Prefixed, Leads, PrefixIn, HeadIn}
use Rattle.query.proofs.Tails.{items_failed, Read, items_read, of_fails}
use Rattle.query.proofs.Texts.{prefix_words_lem, prefix_few, query_read, query_at, goes}

-- NO ITEMS

same_ok : {A B : Type 0} {a b : A} → ◌≡◌ {A = Answer A B} (Ok a) (Ok b) → a ≡ b
same_ok e = cc

same_pair : {A B C : Type 0} {a c : A} {b d : B} → ◌≡◌ {A = Answer (A × B) C} (Ok (a, b)) (Ok (c, d)) → (a ≡ c) × (b ≡ d)
same_pair e = let z = same_ok e in (ap (λ p. p.0) z, ap (λ p. p.1) z)

module _ (e : Edition) (s : List ℕ) (n : ℕ) (p : List ℕ) where
  -- by what asks for a prefix
  pub head_with : (asked : Asked) (c : Count) → PrefixIn e s (word_of asked) n (Ok c) p → HeadIn e s n (Ok (asked, c)) p
  head_with asked c v = record {
    failed = λ d x. absurd (cc x);
    leads = λ k m x. let z = same_pair x in rw (z.0, z.1) at v;
    size = v.size;
  }

  pub head_refused : (d : Refusal) → PrefixIn e s 2 n (Err d) p → HeadIn e s n (Err d) p
  head_refused d v = record {
    failed = λ c x. v.failed c (λ i. Err (same_err x i));
    leads = λ k m x. absurd (cc x);
    size = v.size;
  }
    where
      same_err : {c : Refusal} → ◌≡◌ {A = Answer (Asked × Count) Refusal} (Err d) (Err c) → d ≡ c
      same_err e = cc

module _ (e : Edition) (s : List ℕ) (o : List ℕ) (z : Blank o) where
  prefix_as : (h : Option (HeadText (spelling e).Says)) (kind : ℕ) (c : Count) → c.row ≤ length o → Leads e s h kind (length o) c o → c.next ≤ length s → PrefixIn e s kind (length o) (Ok c) o
  prefix_as h kind c w l n = record {
    failed = λ d x. absurd (cc x);
    leads = λ m x. (h, rw (same_ok x) at l);
    room = λ m x. rw (same_ok x) at n;
    rows = λ m x. rw (same_ok x) at w;
    size = refl;
  }

  pub prefix_present : Opened e 1 s → (c : Count) → c ≡ no_items 2 → HeadIn e s (length o) (Ok (Present, c)) o
  prefix_present k c q =
      let w = k in
      head_with e s (length o) o Present c
      (rw q (prefix_as (some (inl w.0)) 1 (no_items 2) (omega (arith, z.0)) (record { is = w.1; kinds = refl; count = refl; first = refl; crowd = refl; held = λ m n. (z.1, refl) }) w.2))

  pub prefix_free : Asks e s → Opened e 0 s → (c : Count) → c ≡ no_items 1 → HeadIn e s (length o) (Ok (Free, c)) o
  prefix_free asks k c q =
      head_with e s (length o) o Free c
      (rw q (prefix_as none 0 (no_items 1) (omega (arith, z.0)) (record { is = k; kinds = refl; count = refl; first = refl; crowd = refl; held = λ m n. (z.1, refl) }) asks.room))

-- A PREFIX OF ITEMS

module _ (e : Edition) (s : List ℕ) (P : Prefixed e s) (o p : List ℕ) (b : Blank o) (r : Answer Count Refusal) (v : ItemsIn e false s 2 4 r o p) where
  abbrev Lists : Type 0
  Lists = ListText (spelling e).Says

  abbrev one : Format Lists
  one = prefix_list (spelling e)

  abbrev size : ℕ
  size = length s

  abbrev all : Located (List Lists)
  all = locate (many one) s 2

  abbrev then : Lists × List Lists → ℕ → Located ((Lists × List Lists) × ℕ)
  then l i = on_found (λ t. (l, t)) (locate (byte 84) s i)

  abbrev headed : Located (List Lists) → Located (Option (HeadText (spelling e).Says))
  headed l = on_found some (on_found inr (and_then (one_or_more size l) then))

  head_at : locate (optional (head (spelling e))) s 1 ≡ headed all
  head_at =
      P.opened.0
      ∙ ap (λ l. on_found some (on_found inr l))
      (sequence_at_got (some_lists (spelling e)) (λ l. byte 84) s 2 (got 1 (some_lists (spelling e)) (some_lists_lawful (spelling e) (lawful e)) s 2 P.opened.1)
      ∙ ap (λ l. and_then l then) (one_or_more_lem 1 one (prefix_list_laws (spelling e) (lawful e)).opens s 2 P.opened.1))

  ends : (l : Located (List Lists)) → all ≡ l → locate (query (spelling e)) s 0 ≡ and_then (headed l) (goes e s P.asks)
  ends l x = query_at e s P.asks ∙ ap (λ l. and_then l (goes e s P.asks)) (head_at ∙ ap headed x)

  -- a refusal
  refused_in : (d : Refusal) → FailsAs (length s) (locate (query (spelling e)) s 0) d → PrefixIn e s 2 (length o) (Err d) p
  refused_in d f = record {
    failed = λ c x. rw (same_err x) at (ap (of_outcome (length s)) (query_read e s) ∙ of_fails (length s) (locate (query (spelling e)) s 0) d f);
    leads = λ c x. absurd (cc x);
    room = λ c x. absurd (cc x);
    rows = λ c x. absurd (cc x);
    size = v.size;
  }
    where
      same_err : {c : Refusal} → ◌≡◌ {A = Answer Count Refusal} (Err d) (Err c) → d ≡ c
      same_err e = cc

  -- what follows the head is refused as the head is
  head_fails : (l : Located (Option (HeadText (spelling e).Says))) (d : Refusal) → locate (query (spelling e)) s 0 ≡ and_then l (goes e s P.asks) → FailsAs (length s) l d → PrefixIn e s 2 (length o) (Err d) p
  head_fails l d x f = refused_in d (rw x (fails_on (length s) l (goes e s P.asks) d f))

  pub prefix_refused : (d : Refusal) → r ≡ Err d → PrefixIn e s 2 (length o) (Err d) p
  prefix_refused d z = head_fails (headed all) d (ends all refl) (go all (items_failed e false s 2 4 r o p v d z))
    where
      go : (l : Located (List Lists)) → FailsAs (length s) l d → FailsAs (length s) (headed l) d
      go (found l i) q = absurd q
      go (wrong_at n) q = q
      go short_here q = q

  module _ (m : Count) (z : r ≡ Ok m) where
    abbrev k : Read e false s 2 4 r o p v m
    k = items_read e false s 2 4 r o p v m z

    none-go : (l : List Lists) → all ≡ found l m.next → length l ≡ 0 → all ≡ found [] m.next
    none-go [] x n = x
    none-go (a ∷ l) x n = absurd (omega arith)

    none_found : m.count ≡ 0 → all ≡ found [] m.next
    none_found n = none-go k.items k.is (sym k.count ∙ n)

    pub prefix_none : m.count ≡ 0 → m.next < length s → PrefixIn e s 2 (length o) (Err (TextWrong m.next)) p
    prefix_none n l =
        let x : locate (query (spelling e)) s 0 ≡ wrong_at m.next = ends (found [] m.next) (none_found n) ∙ rw (lt-ltb m.next size l) in
        refused_in (TextWrong m.next) (rw x refl)

    pub prefix_none_cut : m.count ≡ 0 → length s ≤ m.next → PrefixIn e s 2 (length o) (Err (TextShort (length s))) p
    prefix_none_cut n l =
        let x : locate (query (spelling e)) s 0 ≡ short_here = ends (found [] m.next) (none_found n) ∙ rw (le-ltb m.next size l) in
        refused_in (TextShort (length s)) (rw x refl)

    -- one or more
    record More : Type 0 where
      pub first : Lists
      pub rest : List Lists
      pub is : k.items ≡ first ∷ rest

    more_go : (l : List Lists) → k.items ≡ l → (length l ≡ 0 → ⊥) → More
    more_go [] x n = absurd (n refl)
    more_go (a ∷ l) x n = record { first = a; rest = l; is = x }

    module _ (n : m.count ≡ 0 → ⊥) (t : Answer ℕ Refusal) (told : t ≡ token_at (byte 84) s m.next) where
      more : More
      more = more_go k.items refl (λ y. n (k.count ∙ y))

      abbrev said : Lists × List Lists
      said = (more.first, more.rest)

      there : all ≡ found (more.first ∷ more.rest) m.next
      there = k.is ∙ ap (λ l. found l m.next) more.is

      abbrev after : Located ℕ → Located (Option (HeadText (spelling e).Says))
      after l = on_found some (on_found inr (on_found (λ t. (said, t)) l))

      pub prefix-fails : (d : Refusal) → t ≡ Err d → PrefixIn e s 2 (length o) (Err d) p
      prefix-fails d x =
          head_fails (after (locate (byte 84) s m.next)) d (ends (found (more.first ∷ more.rest) m.next) there)
          (fails_in (length s) (on_found inr (on_found (λ t. (said, t)) (locate (byte 84) s m.next))) some d
          (fails_in (length s) (on_found (λ t. (said, t)) (locate (byte 84) s m.next)) inr d
          (fails_in (length s) (locate (byte 84) s m.next) (λ t. (said, t)) d (token_fails (byte 84) s m.next t d told x))))

      pub prefix_room : (u : ℕ) → t ≡ Ok u → m.next + 1 ≤ length s
      prefix_room u x = (delimited_got 1 (byte 84) (byte_delimited 84) s m.next u (m.next + 1) (byte_there 84 s m.next u t told x)).room

      abbrev of : Lists → List Item
      of = alternatives_of (spelling e).means

      abbrev past : Count
      past = record { next = m.next + 1; count = m.count; reversed = m.reversed; crowded = m.crowded; row = m.row }

      leads : (u : ℕ) → t ≡ Ok u → Leads e s (some (inr (said, u))) 2 (length o)
          past p
      leads u y = record {
        is = head_at ∙ ap headed there ∙ ap after (byte_there 84 s m.next u t told y);
        kinds = refl;
        count = k.count ∙ ap length more.is ∙ sym (length-map (more.first ∷ more.rest) of);
        first = k.first ∙ ap (λ l. first_of (all_spots (item e false).format (item e false).spots 2 l)) more.is;
        crowd = k.crowd ∙ ap not (prefix_few e k.items ∙ ap (λ l. every few (map of l)) more.is);
        held = λ m n.
            let w : all_words (item e false) k.items ≡ rows_words (map bare (map of (more.first ∷ more.rest))) = prefix_words_lem e k.items ∙ ap (λ l. rows_words (map bare (map of l))) more.is in
            let h = k.held (rw w n) (prefix_few e k.items ∙ ap (λ l. every few (map of l)) more.is ∙ m) in
            (h.0 ∙ (λ j. sets (b.1 j) 4 (w j)), h.1 ∙ ap (λ w. 4 + length w) w);
      }

      pub prefix-items : (u : ℕ) → t ≡ Ok u → PrefixIn e s 2 (length o) (Ok past) p
      prefix-items u y = record {
        failed = λ d x. absurd (cc x);
        leads = λ c x. (some (inr (said, u)), rw (same_ok x) at (leads u y));
        room = λ c x. let n : m.next + 1 ≡ c.next = ap (λ c. c.next) (same_ok x) in omega (arith, n, prefix_room u y);
        rows = λ c x. let n : m.row ≡ c.row = ap (λ c. c.row) (same_ok x) in omega (arith, n, k.rows);
        size = v.size;
      }
