-- One alternative, further ones and all alternatives of an item: one law for each return.
use Prim.Native.Nat.{ℕ, ◌+◌, ◌≤◌}
use mathlib.Core.List.{List, [], ◌∷◌, ◌++◌, map}
use mathlib.Core.Path.{◌≡◌, refl, sym, ap, ◌∙◌}
use mathlib.Core.Bool.{Bool, true, false}
use mathlib.Core.Option.{none, some}
use lib.Dec.{ltb}
use lib.ListN.{length, drop, length-drop, length-map}
use lib.Seq.{sets, length-sets}
use native.Mathlib.Omega.{arith}
use borrow.Author.Tests.{leb-true}
use Rattle.format.specs.Format.{Format, choose, many}
use Rattle.format.specs.Format.{other as other-one}
use Rattle.format.specs.Located.{Located, found, wrong_at, short_here, locate, and_then, on_found}
use Rattle.format.proofs.At.{Got, got, delimited_got, sequence_at_got, Strays, here, later}
use Rattle.format.proofs.Begun.{sequence_begun}
use Rattle.format.proofs.Loop.{strays}
use Rattle.format.proofs.Open.{Open}
use Rattle.charset.specs.Bytes.{byte, after}
use Rattle.charset.proofs.FixedByte.{after_at, after_begun}
use Rattle.charset.proofs.Units.{byte_delimited}
use Rattle.std.specs.Prelude.{Result as Answer, Ok, Err, Option as Optional, Some, None}
use Rattle.std.specs.Option.{option_or}
use Rattle.token.specs.declared.refusal.Refusal.{Refusal}
use Rattle.token.specs.Token.{token_at}
use Rattle.token.proofs.PaddedLists.{sets_append}
use Rattle.querygrammar.specs.declared.Edition.{Edition}
use Rattle.querygrammar.specs.Spelling.{Item, spelling}
use Rattle.querygrammar.specs.Query.{others, ListText}
use Rattle.querygrammar.proofs.Lists.{Laws, Unmarked, joined_open, list_laws}
use Rattle.queryitem.specs.declared.reading.Numbers.{Numbers}
use Rattle.queryitem.specs.Numbers.{optionally}
use Rattle.queryitem.specs.Words.{items_words}
use Rattle.queryitem.specs.Pieces.{answered, Piece, item_at}
use Rattle.queryitem.proofs.Answers.{item_laws, item_located}
use Rattle.queryitem.proofs.Chains.{byte_there, FailsAs, token_fails, fails_answered, answered_fails}
use Rattle.querypart.specs.declared.alternatives.Listed.{Listed}
use Rattle.querypart.specs.Spots.{reversed, other_spots, list_spots, all_spots}
use Rattle.querypart.specs.Inner.{noted, first_of, Sort, one, means, single, other, alternatives, few, listed, OneIn, all_words, all_few, listed_all, AllIn}
use Rattle.querypart.proofs.Spots.{first_both}
use Rattle.querypart.proofs.Valid.{item_valid, item_order}
use Rattle.querypart.proofs.Walks.{one_found, one_failed}
use Rattle.querypart.proofs.Walks as Walks

-- what was put, by what was located
pub one_in : (k : Sort) (s : List ℕ) (at slot : ℕ) (r : Answer Listed Refusal) (o p : List ℕ) (a : k.Says) (next : ℕ) → locate k.format s at ≡ found a next → r ≡ Ok (listed k at a next)
    → length p ≡ length o → (few (k.alternatives a) ≡ true → p ≡ sets o slot (k.words a)) → OneIn k s at slot r o p
one_in k s at slot r o p a next e q z h = record {
  is = q ∙ ap (answered (listed k at) (length s)) (sym e);
  size = z;
  still = λ x. absurd (let y = sym e ∙ x in let z : ◌≡◌ {A = ℕ} 0 1 = cc in omega arith);
  holds = λ b j x c. let y : a ≡ b = same (sym e ∙ x) in h (ap (λ a. few (k.alternatives a)) y ∙ c) ∙ ap (λ a. sets o slot (k.words a)) y;
}
  where
    same : {A : Type 0} {a b : A} {i j : ℕ} → found a i ≡ found b j → a ≡ b
    same e = cc

pub one_fails : (k : Sort) (s : List ℕ) (at slot : ℕ) (e : Refusal) (o p : List ℕ) → FailsAs (length s) (locate k.format s at) e
    → length p ≡ length o → (locate k.format s at ≡ wrong_at at → p ≡ o) → OneIn k s at slot (Err e) o p
one_fails k s at slot e o p f z h = record {
  is = fails_answered (listed k at) (length s) (locate k.format s at) e f;
  size = z;
  still = h;
  holds = λ a next x. absurd (rw x at f);
}

-- what fails in its first part
pub fails_on : {A B : Type 0} (size : ℕ) (l : Located A) (k : A → ℕ → Located B) (e : Refusal) → FailsAs size l e → FailsAs size (and_then l k) e
fails_on size (found a i) k e f = absurd f
fails_on size (wrong_at p) k e f = f
fails_on size short_here k e f = f

pub fails_in : {A B : Type 0} (size : ℕ) (l : Located A) (to : A → B) (e : Refusal) → FailsAs size l e → FailsAs size (on_found to l) e
fails_in size (found a i) to e f = absurd f
fails_in size (wrong_at p) to e f = f
fails_in size short_here to e f = f

-- what fails at its first byte in its first part
pub wrong_first : {A B : Type 0} (at : ℕ) (size : ℕ) (l : Located A) (k : A → ℕ → Located B) (e : Refusal) → FailsAs size l e → and_then l k ≡ wrong_at at → l ≡ wrong_at at
wrong_first at size (found a i) k e f x = absurd f
wrong_first at size (wrong_at p) k e f x = let z : p ≡ at = cc in ap wrong_at z
wrong_first at size short_here k e f x = absurd (cc x)

-- ONE ALTERNATIVE

-- what is wrong where it begins is another format's
pub strays_here : {A : Type 0} (w : ℕ) (f : Format A) → Open w f → (s : List ℕ) (at : ℕ) → locate f s at ≡ wrong_at at → f.read (drop at s) ≡ other-one
strays_here w f d s at x = go (strays w f d s at at x)
  where
    go : Strays f s at at → f.read (drop at s) ≡ other-one
    go (here z o) = o
    go (later rest z k o) = absurd (omega arith)

module _ (e : Edition) (boxed : Bool) where
  abbrev f : Format (spelling e).Says
  f = one e boxed

  abbrev of : (spelling e).Says → Item
  of = means e boxed

  laws : Laws Unmarked f
  laws = item_laws e boxed

  -- the first reversed range of one spot
  one_first : (at : ℕ) (i : Item) → choose (reversed i) (Some at) None ≡ first_of ((at, i) ∷ [])
  one_first at i = go (reversed i)
    where
      go : (t : Bool) → choose t (Some at) None ≡ optionally (choose t (some at) none)
      go true = refl
      go false = refl

  module _ (s : List ℕ) (at slot : ℕ) (o : List ℕ) (t : Piece) (told : t ≡ item_at e boxed s at) where
    pub single_found : at ≤ length s → (n : Numbers) (next : ℕ) → t ≡ Ok (n, next) → (p : List ℕ) → p ≡ sets o slot (n.lo ∷ n.hi ∷ n.turn ∷ [])
        → (m : Optional ℕ) → m ≡ noted n at → OneIn (single e boxed) s at slot (Ok (record { next = next; count = 1; reversed = m })) o p
    single_found h n next q p put m w =
        let k = item_located e boxed s at (Ok (n, next)) (sym q ∙ told) in
        let a = k.says in
        let g = got 1 f laws.opens.lawful s at h a next k.is in
        let c : m ≡ first_of ((at, of a) ∷ []) =
        w ∙ (λ i. choose (ltb (k.means i).hi (k.means i).lo) (Some at) None) ∙ ap (λ t. choose t (Some at) None) (item_order (of a) (item_valid e boxed a g.valid)) ∙ one_first at (of a) in
        one_in (single e boxed) s at slot (Ok (record { next = next; count = 1; reversed = m })) o p a next k.is (λ i. Ok (record { next = next; count = 1; reversed = c i }))
        (ap length put ∙ length-sets o slot (n.lo ∷ n.hi ∷ n.turn ∷ []))
        (λ few. put ∙ ap (λ n. sets o slot (n.lo ∷ n.hi ∷ n.turn ∷ [])) k.means)

    pub single_fails : (r : Refusal) → t ≡ Err r → OneIn (single e boxed) s at slot (Err r) o o
    single_fails r q = one_fails (single e boxed) s at slot r o o (item_located e boxed s at (Err r) (sym q ∙ told)) refl (λ z. refl)

  -- A FURTHER ONE

  pub other_open : Open 1 (other e boxed).format
  other_open = joined_open f laws

  module _ (s : List ℕ) (at slot : ℕ) (o : List ℕ) (t : Answer ℕ Refusal) (told : t ≡ token_at (byte 111) s at) where
    after-it : locate (after 111 f) s at ≡ and_then (locate (byte 111) s at) λ b i. locate f s i
    after-it = after_at 111 f s at

    pub other_found : (b : ℕ) → t ≡ Ok b → (p : List ℕ) (r : Answer Listed Refusal) → OneIn (single e boxed) s (at + 1) slot r o p → OneIn (other e boxed) s at slot r o p
    other_found b q p r v =
        let l : locate (after 111 f) s at ≡ locate f s (at + 1) = after-it ∙ ap (λ l. and_then l λ b i. locate f s i) (byte_there 111 s at b t told q) in
        let g = delimited_got 1 (byte 111) (byte_delimited 111) s at b (at + 1) (byte_there 111 s at b t told q) in
        record {
          is = v.is ∙ same (locate f s (at + 1)) ∙ ap (answered (listed (other e boxed) at) (length s)) (sym l);
          size = v.size;
          still = λ x. absurd (after_begun 111 f (drop at s) b (drop (at + 1) s) g.reads (strays_here 1 (after 111 f) (joined_open f laws) s at x));
          holds = λ a next x. v.holds a next (sym l ∙ x);
        }
      where
        same : (l : Located (spelling e).Says) → answered (listed (single e boxed) (at + 1)) (length s) l ≡ answered (listed (other e boxed) at) (length s) l
        same (found a next) = refl
        same (wrong_at j) = refl
        same short_here = refl

    pub other_room : (b : ℕ) → t ≡ Ok b → at + 1 ≤ length s
    other_room b q = (delimited_got 1 (byte 111) (byte_delimited 111) s at b (at + 1) (byte_there 111 s at b t told q)).room

    pub other_fails : (r : Refusal) → t ≡ Err r → OneIn (other e boxed) s at slot (Err r) o o
    other_fails r q =
        one_fails (other e boxed) s at slot r o o (rw after-it (fails_on (length s) (locate (byte 111) s at) (λ b i. locate f s i) r (token_fails (byte 111) s at t r told q))) refl (λ z. refl)

  -- ALL OF THEM

  others_words : (l : List (spelling e).Says) → all_words (other e boxed) l ≡ items_words (map of l)
  others_words [] = refl
  others_words (a ∷ l) = ap (λ w. (other e boxed).words a ++ w) (others_words l)

  others_few : (l : List (spelling e).Says) → all_few (other e boxed) l ≡ true
  others_few [] = refl
  others_few (a ∷ l) = others_few l

  module _ (s : List ℕ) (at from : ℕ) (o p : List ℕ) (r : Answer Listed Refusal) (inside : at ≤ length s) (v : OneIn (single e boxed) s at from r o p) where
    abbrev rest : Format (List (spelling e).Says)
    rest = others (spelling e).joins f

    abbrev goes : (spelling e).Says → ℕ → Located (ListText (spelling e).Says)
    goes a i = on_found (λ l. (a, l)) (locate rest s i)

    list_at : locate (alternatives e boxed).format s at ≡ and_then (locate f s at) goes
    list_at = sequence_at_got f (λ a. rest) s at (got 1 f laws.opens.lawful s at inside)

    pub list_fails : (d : Refusal) → r ≡ Err d → OneIn (alternatives e boxed) s at from (Err d) o p
    list_fails d z =
        let k = one_failed (single e boxed) s at from r o p v d z in
        one_fails (alternatives e boxed) s at from d o p (rw list_at (fails_on (length s) (locate f s at) goes d k)) v.size
        (λ x. v.still (wrong_first at (length s) (locate f s at) goes d k (sym list_at ∙ x)))

    module _ (m : Listed) (z : r ≡ Ok m) where
      abbrev y : Walks.Found (single e boxed) s at from r o p v m
      y = one_found (single e boxed) s at from r o p v m z

      there : Got f s at y.says m.next
      there = got 1 f laws.opens.lawful s at inside y.says m.next y.is

      pub list-room : m.next ≤ length s
      list-room = there.room

      -- the first is there
      begun : locate (alternatives e boxed).format s at ≡ wrong_at at → ⊥
      begun x =
          sequence_begun f (λ a. rest) (drop at s) y.says (drop m.next s) there.reads
          (strays_here 1 (alternatives e boxed).format (list_laws f laws (spelling e).joins).opens s at x)

      list_on : (l : Located (List (spelling e).Says)) → locate rest s m.next ≡ l → locate (alternatives e boxed).format s at ≡ on_found (λ l. (y.says, l)) l
      list_on l x = list_at ∙ ap (λ l. and_then l goes) y.is ∙ ap (on_found (λ l. (y.says, l))) x

      -- the edition does not join
      no-others : (joins : Bool) → joins ≡ false → locate (others joins f) s m.next ≡ found [] m.next
      unfolding locate
      no-others true x = absurd (let z : ◌≡◌ {A = ℕ} 0 1 = ap (λ t. choose t 0 1) x in omega arith)
      no-others false x = ap (found []) (let g = there.room in omega (arith, length-drop m.next s))

      pub list-alone : (spelling e).joins ≡ false → OneIn (alternatives e boxed) s at from (Ok m) o p
      list-alone x =
          one_in (alternatives e boxed) s at from (Ok m) o p (y.says, []) m.next (list_on (found [] m.next) (no-others (spelling e).joins x))
          (λ i. Ok (record { next = m.next; count = y.count i; reversed = y.first i })) v.size (λ few. v.holds y.says m.next y.is refl)

      -- it does
      module _ (x : (spelling e).joins ≡ true) (b : List ℕ) (t : Answer Listed Refusal) (w : AllIn (other e boxed) 7 s m.next (from + 3) t p b) where
        abbrev more : Located (List (spelling e).Says)
        more = locate (many (after 111 f)) s m.next

        list_more : locate (alternatives e boxed).format s at ≡ on_found (λ l. (y.says, l)) more
        list_more = list_on more (ap (λ j. locate (others j f) s m.next) x)

        pub list-fails-later : (d : Refusal) → t ≡ Err d → OneIn (alternatives e boxed) s at from (Err d) o b
        list-fails-later d n =
            one_fails (alternatives e boxed) s at from d o b
            (rw list_more (fails_in (length s) more (λ l. (y.says, l)) d (answered_fails (listed_all (other e boxed) m.next) (length s) more d (sym w.is ∙ n))))
            (w.size ∙ v.size) (λ z. absurd (begun z))

        module _ (n : Listed) (q : t ≡ Ok n) where
          spots-at : (l : List (spelling e).Says) → option_or (first_of ((at, of y.says) ∷ [])) (first_of (all_spots (after 111 f) (other_spots of) m.next l))
              ≡ first_of (list_spots f of at (y.says, l))
          spots-at l =
              ap (λ i. option_or (first_of ((at, of y.says) ∷ [])) (first_of (all_spots (after 111 f) (other_spots of) i l))) there.size
              ∙ sym (first_both ((at, of y.says) ∷ []) (all_spots (after 111 f) (other_spots of) (at + length (f.write y.says)) l))

          held : (l : List (spelling e).Says) (next : ℕ) → more ≡ found l next → few (of y.says ∷ map of l) ≡ true → b ≡ sets o from (items_words (of y.says ∷ map of l))
          held l next z k =
              let h : length l ≤ 7 = let j = leb-true (length (of y.says ∷ map of l)) 8 k in omega (arith, length-map l of) in
              w.holds l next z h (others_few l)
              ∙ (λ i. sets (v.holds y.says m.next y.is refl i) (from + 3) (others_words l i))
              ∙ sets_append ((single e boxed).words y.says) (items_words (map of l)) o from

          -- how many there are is no more than the bytes
          pub list-count : n.count ≤ length s
          list-count = go more refl (sym w.is ∙ q)
            where
              go : (l : Located (List (spelling e).Says)) → more ≡ l → answered (listed_all (other e boxed) m.next) (length s) l ≡ Ok n → n.count ≤ length s
              go (found l next) z u = let h : length l ≡ n.count = cc in omega (arith, w.below l next z)
              go (wrong_at j) z u = absurd (cc u)
              go short_here z u = absurd (cc u)

          pub list_done : (first : Optional ℕ) → first ≡ option_or m.reversed n.reversed → OneIn (alternatives e boxed) s at from (Ok (record { next = n.next; count = n.count + 1; reversed = first })) o b
          list_done first c = go more refl (sym w.is ∙ q)
            where
              go : (l : Located (List (spelling e).Says)) → more ≡ l → answered (listed_all (other e boxed) m.next) (length s) l ≡ Ok n
                  → OneIn (alternatives e boxed) s at from (Ok (record { next = n.next; count = n.count + 1; reversed = first })) o b
              go (found l next) z u =
                  let k : n ≡ listed_all (other e boxed) m.next l next = cc in
                  let count : n.count + 1 ≡ length (of y.says ∷ map of l) = omega (arith, ap (λ n. n.count) k, length-map l of) in
                  let reversed : first ≡ first_of (list_spots f of at (y.says, l)) = c ∙ (λ i. option_or (y.first i) (k i).reversed) ∙ spots-at l in
                  one_in (alternatives e boxed) s at from (Ok (record { next = n.next; count = n.count + 1; reversed = first })) o b (y.says, l) next (list_more ∙ ap (on_found (λ l. (y.says, l))) z)
                  (λ i. Ok (record { next = (k i).next; count = count i; reversed = reversed i })) (w.size ∙ v.size) (held l next z)
              go (wrong_at j) z u = absurd (cc u)
              go short_here z u = absurd (cc u)
