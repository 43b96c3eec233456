-- An item as a row, and the loop over items: one law for each return.
use Prim.Native.Nat.{ℕ, suc, ◌+◌, ◌*◌, ◌≤◌, ◌<◌, min}
use mathlib.Core.List.{List, [], ◌∷◌, ◌++◌}
use mathlib.Core.Path.{◌≡◌, refl, sym, ap, ◌∙◌}
use mathlib.Core.Bool.{Bool, true, false, not, ◌&&◌, ◌||◌}
use mathlib.Core.Option.{Option, none, some}
use lib.Dec.{leb}
use lib.ListN.{length, drop, set, length-append}
use lib.Seq.{sets, set_comm, length-sets}
use native.Mathlib.Omega.{arith}
use borrow.Author.Tests.{le-leb, leb-true}
use Rattle.format.specs.Format.{Format, choose, many, optional}
use Rattle.format.specs.Located.{Located, found, wrong_at, locate, and_then, on_found}
use Rattle.format.proofs.At.{Got, got, sequence_at_got}
use Rattle.format.proofs.Begun.{sequence_begun}
use Rattle.std.specs.Prelude.{Result as Answer, Ok, Err, Option as Optional, unwrap_or}
use Rattle.std.specs.Option.{option_or}
use Rattle.token.specs.declared.refusal.Refusal.{Refusal}
use Rattle.token.specs.declared.refusal.Refusal.TheVariants.{TextWrong}
use Rattle.format.proofs.Open.{Open}
use Rattle.querygrammar.specs.declared.Edition.{Edition}
use Rattle.querygrammar.specs.Spelling.{spelling}
use Rattle.querygrammar.specs.Query.{coordinate, SoughtText, ListText, alternatives_of, bare_list}
use Rattle.querygrammar.proofs.Items.{lawful}
use Rattle.querygrammar.proofs.Query.{prefix_list_laws, bare_list_laws, signbox_list_laws}
use Rattle.queryitem.specs.Numbers.{optionally, x_of, y_of}
use Rattle.queryitem.specs.Words.{spare, items_words}
use Rattle.queryitem.specs.Pieces.{answered, coordinate_at}
use Rattle.queryitem.proofs.Answers.{place_located}
use Rattle.queryitem.proofs.Chains.{fails_answered}
use Rattle.queryitem.proofs.Rows.{items_size}
use Rattle.querypart.specs.declared.alternatives.Listed.{Listed}
use Rattle.querypart.specs.declared.items.Count.{Count}
use Rattle.querypart.specs.Inner.{Sort, alternatives, item, few, OneIn, all_words, all_few, counted, row_slot, ItemsIn}
use Rattle.querypart.proofs.Walks.{few_more, words_more, one_found, one_failed, Walked, walked-grow, walked_on, walked_none, walked_stop, walked_bad, walked_end}
use Rattle.querypart.proofs.Walks as Walks
use Rattle.querypart.proofs.Lists.{one_in, one_fails, fails_on, fails_in, wrong_first, strays_here}

-- WORDS BEFORE OTHERS

set_past : (b l : List ℕ) (i j x : ℕ) → i < j → set (sets l j b) i x ≡ sets (set l i x) j b
set_past [] l i j x h = refl
set_past (y ∷ b) l i j x h = set_past b (set l j y) i (suc j) x (omega arith) ∙ ap (λ l. sets l (suc j) b) (set_comm l j i y x (λ e. omega arith))

head_before : (o : List ℕ) (row x y n : ℕ) (b : List ℕ) → sets (sets o (row + 3) b) row (x ∷ y ∷ n ∷ []) ≡ sets o row (x ∷ y ∷ n ∷ b)
head_before o row x y n b =
    let a : row + 3 ≡ suc (suc (suc row)) = omega arith in
    (λ i. set (set (set_past b o row (row + 3) x (omega arith) i) (suc row) y) (suc (suc row)) n)
    ∙ (λ i. set (set_past b (set o row x) (suc row) (row + 3) y (omega arith) i) (suc (suc row)) n)
    ∙ set_past b (set (set o row x) (suc row) y) (suc (suc row)) (row + 3) n (omega arith)
    ∙ (λ i. sets (set (set (set o row x) (suc row) y) (suc (suc row)) n) (a i) b)

few_count : {A : Type 0} (l : List A) → few l ≡ true → min (length l) 8 ≡ length l
few_count l e = let h = leb-true (length l) 8 e in omega arith

-- ONE ITEM

module _ (e : Edition) where
  pub item_open : (boxed : Bool) → Open 1 (item e boxed).format
  item_open true = (signbox_list_laws (spelling e) (lawful e)).opens
  item_open false = (prefix_list_laws (spelling e) (lawful e)).opens

  -- of the prefix: the alternatives, and three words before them
  module _ (s : List ℕ) (at row : ℕ) (o p : List ℕ) (r : Answer Listed Refusal) (v : OneIn (alternatives e false) s at (row + 3) r o p) where
    prefix-fails : (d : Refusal) → r ≡ Err d → OneIn (item e false) s at row (Err d) o p
    prefix-fails d z = one_fails (item e false) s at row d o p (one_failed (alternatives e false) s at (row + 3) r o p v d z) v.size v.still

    prefix-row : (m : Listed) → r ≡ Ok m → (n : ℕ) → n ≡ min m.count 8 → (q : List ℕ) → q ≡ sets p row (0 ∷ 0 ∷ n ∷ []) → OneIn (item e false) s at row (Ok m) o q
    prefix-row m z n c q x =
        let y = one_found (alternatives e false) s at (row + 3) r o p v m z in
        one_in (item e false) s at row (Ok m) o q y.says m.next y.is (λ i. Ok (record { next = m.next; count = y.count i; reversed = y.first i }))
        (ap length x ∙ length-sets p row (0 ∷ 0 ∷ n ∷ []) ∙ v.size)
        (λ k.
        let l = alternatives_of (spelling e).means y.says in
        let d : n ≡ length l = c ∙ ap (λ n. min n 8) y.count ∙ few_count l k in
        x ∙ (λ i. sets (v.holds y.says m.next y.is k i) row (0 ∷ 0 ∷ d i ∷ [])) ∙ head_before o row 0 0 (length l) (items_words l))

  -- of the signbox: with a coordinate or without
  module _ (s : List ℕ) (at row : ℕ) (o p : List ℕ) (r : Answer Listed Refusal) (inside : at ≤ length s) (v : OneIn (alternatives e true) s at (row + 3) r o p) where
    abbrev there : Format (Option (ℕ × ℕ))
    there = optional (coordinate (spelling e))

    abbrev goes : ListText (spelling e).Says → ℕ → Located (SoughtText (spelling e).Says)
    goes l i = on_found (λ c. (l, c)) (locate there s i)

    sought-at : locate (item e true).format s at ≡ and_then (locate (bare_list (spelling e)) s at) goes
    sought-at = sequence_at_got (bare_list (spelling e)) (λ l. there) s at (got 1 (bare_list (spelling e)) (bare_list_laws (spelling e) (lawful e)).opens.lawful s at inside)

    signbox-fails : (d : Refusal) → r ≡ Err d → OneIn (item e true) s at row (Err d) o p
    signbox-fails d z =
        let k = one_failed (alternatives e true) s at (row + 3) r o p v d z in
        one_fails (item e true) s at row d o p (rw sought-at (fails_on (length s) (locate (bare_list (spelling e)) s at) goes d k)) v.size
        (λ x. v.still (wrong_first at (length s) (locate (bare_list (spelling e)) s at) goes d k (sym sought-at ∙ x)))

    module _ (m : Listed) (z : r ≡ Ok m) where
      abbrev y : Walks.Found (alternatives e true) s at (row + 3) r o p v m
      y = one_found (alternatives e true) s at (row + 3) r o p v m z

      listed : Got (bare_list (spelling e)) s at y.says m.next
      listed = got 1 (bare_list (spelling e)) (bare_list_laws (spelling e) (lawful e)).opens.lawful s at inside y.says m.next y.is

      signbox-room : m.next ≤ length s
      signbox-room = listed.room

      begun : locate (item e true).format s at ≡ wrong_at at → ⊥
      begun x =
          sequence_begun (bare_list (spelling e)) (λ l. there) (drop at s) y.says (drop m.next s) listed.reads
          (strays_here 1 (item e true).format (signbox_list_laws (spelling e) (lawful e)).opens s at x)

      on : locate (item e true).format s at ≡ on_found (λ c. (y.says, c)) (locate there s m.next)
      on = sought-at ∙ ap (λ l. and_then l goes) y.is

      module _ (t : Answer (Optional (ℕ × ℕ) × ℕ) Refusal) (told : t ≡ coordinate_at e s m.next) where
        signbox-wrong : (d : Refusal) → t ≡ Err d → OneIn (item e true) s at row (Err d) o p
        signbox-wrong d q =
            one_fails (item e true) s at row d o p
            (rw on (fails_in (length s) (locate there s m.next) (λ c. (y.says, c)) d (place_located e s m.next (Err d) (sym q ∙ told)))) v.size (λ z. absurd (begun z))

        abbrev xy : Optional (ℕ × ℕ) → ℕ × ℕ
        xy c = unwrap_or c (0, 0)

        placed-as : (a : Option (ℕ × ℕ)) → xy (optionally a) ≡ (x_of a, y_of a)
        placed-as none = refl
        placed-as (some a) = refl

        signbox-row : (a : Optional (ℕ × ℕ)) (next : ℕ) → t ≡ Ok (a, next) → (n : ℕ) → n ≡ min m.count 8 → (b : ℕ × ℕ) → b ≡ xy a → (q : List ℕ) → q ≡ sets p row (b.0 ∷ b.1 ∷ n ∷ [])
            → OneIn (item e true) s at row (Ok (record { next = next; count = m.count; reversed = m.reversed })) o q
        signbox-row a next f n c b g q x =
            let k = place_located e s m.next (Ok (a, next)) (sym f ∙ told) in
            let l = alternatives_of (spelling e).means y.says in
            let h : b ≡ (x_of k.says, y_of k.says) = g ∙ ap xy k.means ∙ placed-as k.says in
            one_in (item e true) s at row (Ok (record { next = next; count = m.count; reversed = m.reversed })) o q (y.says, k.says) next (on ∙ ap (on_found (λ c. (y.says, c))) k.is)
            (λ i. Ok (record { next = next; count = y.count i; reversed = y.first i }))
            (ap length x ∙ length-sets p row (b.0 ∷ b.1 ∷ n ∷ []) ∙ v.size)
            (λ w.
            let d : n ≡ length l = c ∙ ap (λ n. min n 8) y.count ∙ few_count l w in
            x ∙ (λ i. sets (v.holds y.says m.next y.is w i) row ((h i).0 ∷ (h i).1 ∷ d i ∷ []))
            ∙ head_before o row (x_of k.says) (y_of k.says) (length l) (items_words l))

-- OF THE SIGNBOX OR OF THE PREFIX, one law for each return

module _ (e : Edition) (boxed : Bool) (s : List ℕ) (at row : ℕ) (o p : List ℕ) (r : Answer Listed Refusal) (inside : at ≤ length s) (v : OneIn (alternatives e boxed) s at (row + 3) r o p) where
  pub row_fails : (d : Refusal) → r ≡ Err d → OneIn (item e boxed) s at row (Err d) o p
  row_fails = go boxed v
    where
      go : (boxed : Bool) → OneIn (alternatives e boxed) s at (row + 3) r o p → (d : Refusal) → r ≡ Err d → OneIn (item e boxed) s at row (Err d) o p
      go true v = signbox-fails e s at row o p r inside v
      go false v = prefix-fails e s at row o p r v

  module _ (m : Listed) (z : r ≡ Ok m) where
    pub row_bare : boxed ≡ false → (n : ℕ) → n ≡ min m.count 8 → (q : List ℕ) → q ≡ sets p row (0 ∷ 0 ∷ n ∷ []) → OneIn (item e boxed) s at row (Ok m) o q
    row_bare b n c q x = rw b (prefix-row e s at row o p r (rw (sym b) v) m z n c q x)

    module _ (b : boxed ≡ true) where
      abbrev w : OneIn (alternatives e true) s at (row + 3) r o p
      w = rw (sym b) v

      pub row_room : m.next ≤ length s
      row_room = signbox-room e s at row o p r inside w m z

      module _ (t : Answer (Optional (ℕ × ℕ) × ℕ) Refusal) (told : t ≡ coordinate_at e s m.next) where
        pub row-wrong : (d : Refusal) → t ≡ Err d → OneIn (item e boxed) s at row (Err d) o p
        row-wrong d q = rw b (signbox-wrong e s at row o p r inside w m z t told d q)

        pub row-placed : (a : Optional (ℕ × ℕ)) (next : ℕ) → t ≡ Ok (a, next) → (n : ℕ) → n ≡ min m.count 8 → (g : ℕ × ℕ) → g ≡ unwrap_or a (0, 0) → (q : List ℕ) → q ≡ sets p row (g.0 ∷ g.1 ∷ n ∷ [])
            → OneIn (item e boxed) s at row (Ok (record { next = next; count = m.count; reversed = m.reversed })) o q
        row-placed a next f n c g j q x = rw b (signbox-row e s at row o p r inside w m z t told a next f n c g j q x)

-- THE LOOP OVER ITEMS

pub record ItemsInv (e : Edition) (boxed : Bool) (s : List ℕ) (at from n i : ℕ) (first : Optional ℕ) (row : ℕ) (crowded : Bool) (o p : List ℕ) : Type 0 where
  pub done : List (item e boxed).Says
  pub walked : Walked (item e boxed) (λ l. from + length (all_words (item e boxed) l) + spare ≤ length o) s at from n i first row done o p
  pub room : row ≤ length o
  pub crowd : crowded ≡ not (all_few (item e boxed) done)

not_and : (s t : Bool) → not s || not t ≡ not (s && t)
not_and true t = refl
not_and false t = refl

-- where a row is put there is room for it
slot_fits : (row room : ℕ) → row + 27 ≤ room → row_slot row room ≡ row
slot_fits row room h = rw (le-leb (row + 27) room h)

pub slot_room : (row room slot : ℕ) → 31 ≤ room → slot ≡ row_slot row room → slot + 27 ≤ room
slot_room row room slot h x = go (leb (row + 27) room) refl x
  where
    go : (t : Bool) → leb (row + 27) room ≡ t → slot ≡ choose t row 4 → slot + 27 ≤ room
    go true q x = omega (arith, leb-true (row + 27) room q)
    go false q x = omega arith

module _ (e : Edition) (boxed : Bool) (s : List ℕ) (at from : ℕ) where
  abbrev k : Sort
  k = item e boxed

  abbrev g : Open 1 k.format
  g = item_open e boxed

  abbrev Fits : List ℕ → List k.Says → Type 0
  Fits o l = from + length (all_words k l) + spare ≤ length o

  -- the words of a row: of an item that is kept, and at least six
  row_size : (slot count : ℕ) (a : k.Says) → count ≡ length (k.alternatives a) → few (k.alternatives a) ≡ true → slot + 3 + 3 * min count 8 ≡ slot + length (k.words a)
  row_size slot count a c f = go boxed a c f
    where
      go : (boxed : Bool) (a : (item e boxed).Says) → count ≡ length ((item e boxed).alternatives a) → few ((item e boxed).alternatives a) ≡ true → slot + 3 + 3 * min count 8 ≡ slot + length ((item e boxed).words a)
      go true a c f = omega (arith, few_count ((item e true).alternatives a) f, items_size ((item e true).alternatives a))
      go false a c f = omega (arith, few_count ((item e false).alternatives a) f, items_size ((item e false).alternatives a))

  row_least : (a : k.Says) → 6 ≤ length (k.words a)
  row_least = go boxed
    where
      go : (boxed : Bool) (a : (item e boxed).Says) → 6 ≤ length ((item e boxed).words a)
      go true a = omega arith
      go false a = omega arith

  module _ (n i : ℕ) (first : Optional ℕ) (row : ℕ) (crowded : Bool) (o p : List ℕ) (v : ItemsInv e boxed s at from n i first row crowded o p) where
    abbrev count : Count
    count = record { next = i; count = n; reversed = first; crowded = crowded; row = row }

    items-found : locate (many k.format) s at ≡ found v.done i → ItemsIn e boxed s at from (Ok count) o p
    items-found x = record {
      row = row;
      is =
          (λ j. Ok (record { next = i; count = v.walked.count j; reversed = v.walked.noticed j; crowded = v.crowd j; row = row }))
          ∙ ap (answered (counted k row at) (length s)) (sym x);
      size = v.walked.size;
      room = v.room;
      holds = λ l next q fits many.
          let same : v.done ≡ l = same_found (sym x ∙ q) in
          rw same at (v.walked.held (rw same fits) (ap (all_few k) same ∙ many));
    }
      where
        same_found : {A : Type 0} {a b : A} {i j : ℕ} → found a i ≡ found b j → a ≡ b
        same_found e = cc

    pub items_end : length s ≤ i → ItemsIn e boxed s at from (Ok count) o p
    items_end h = items-found (walked_end k g (Fits o) s at from n i first row v.done o p v.walked h)

    module _ (slot : ℕ) (r : Answer Listed Refusal) (q : List ℕ) (w : OneIn k s i slot r p q) where
      pub items-grow : (m : Listed) → r ≡ Ok m → (i < m.next) × (m.next ≤ length s)
      items-grow = walked-grow k g (Fits o) s at from n i first row v.done o p v.walked slot r q w

      pub items-on : (l : Listed) (z : r ≡ Ok l) → slot ≡ row_slot row (length p) → slot + 27 ≤ length p → (now : Optional ℕ) → now ≡ option_or first l.reversed → (full : Bool) → full ≡ crowded || not (leb l.count 8)
          → (m : ℕ) → m ≡ min l.count 8 → ItemsInv e boxed s at from (n + 1) l.next now (slot + 3 + 3 * m) full o q
      items-on l z x h now y full c m u =
          let f = one_found k s i slot r p q w l z in
          let d = v.done in
          let most : m ≤ 8 = omega arith in
          let size = v.walked.size in
          record {
            done = d ++ (f.says ∷ []);
            walked =
                walked_on k g (Fits o) s at from n i first row d o p v.walked slot r q w l z
                (λ a fits.
                let j : from + length (all_words k d) + 27 ≤ length o = omega (arith, length-append (all_words k d) (k.words a), ap length (words_more k d a), row_least a, fits) in
                (omega (arith, j), λ t. x ∙ slot_fits row (length p) (omega (arith, j, t, size)))) now y (slot + 3 + 3 * m)
                (λ a h j. ap (λ m. slot + 3 + 3 * m) u ∙ row_size slot l.count a h j);
            room = omega arith;
            crowd =
                c ∙ (λ i. v.crowd i || not (leb (f.count i) 8)) ∙ not_and (all_few k d) (few (k.alternatives f.says)) ∙ ap not (sym (few_more k d f.says));
          }

      pub items-stop : (d : Refusal) → r ≡ Err d → d ≡ TextWrong i → ItemsIn e boxed s at from (Ok count) o q
      items-stop d z x =
          rw (w.still (walked_none k g (Fits o) s at from n i first row v.done o p v.walked slot r q w d z x))
          (items-found (walked_stop k g (Fits o) s at from n i first row v.done o p v.walked slot r q w d z x))

      pub items-bad : i < length s → (d : Refusal) → r ≡ Err d → (d ≡ TextWrong i → ⊥) → from ≤ length o → ItemsIn e boxed s at from (Err d) o q
      items-bad h d z x b =
          let l = walked_bad k g (Fits o) s at from n i first row v.done o p v.walked slot r q w d z h x in record {
            row = from;
            is = fails_answered (counted k from at) (length s) (locate (many k.format) s at) d l;
            size = w.size ∙ v.walked.size;
            room = b;
            holds = λ a next u. absurd (rw u at l);
          }
