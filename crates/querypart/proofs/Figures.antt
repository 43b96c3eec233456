-- The variance at the end of a query: one law for each return.
use Prim.Native.Nat.{ℕ, ◌+◌, ◌*◌, ◌≤◌, ◌<◌}
use mathlib.Core.List.{List, []}
use mathlib.Core.Path.{◌≡◌, refl, sym, ap, ◌∙◌}
use mathlib.Core.Option.{Option, none, some}
use lib.ListN.{length, drop}
use native.Mathlib.Omega.{arith}
use borrow.Author.Tests.{eq-eqb, ne_eqb, le-ltb}
use Rattle.format.specs.Format.{value, other, short, Format, first, second, sequence, optional}
use Rattle.format.specs.Places.{Outcome, fine, refused, ends_short}
use Rattle.format.specs.Located.{Located, found, wrong_at, short_here, locate, and_then, on_found, ended}
use Rattle.format.proofs.At.{delimited_got, sequence_at, cut_reads}
use Rattle.format.proofs.Ends.{on_fine, ended_on, optional_none, optional_cut, optional_open, optional_over}
use Rattle.format.proofs.Begun.{sequence_begun, value_other}
use Rattle.charset.specs.Bytes.{byte, digit, after}
use Rattle.charset.proofs.Units.{byte_delimited, after_other}
use Rattle.charset.proofs.FixedByte.{after_at, after_begun, byte_wrong, digit_wrong}
use Rattle.grammar.proofs.Sign.{sequence_other}
use Rattle.std.specs.Prelude.{Result as Answer, Ok, Err}
use Rattle.token.specs.declared.refusal.Refusal.{Refusal}
use Rattle.token.specs.declared.refusal.Refusal.TheVariants.{TextWrong}
use Rattle.token.specs.Token.{token_at}
use Rattle.token.proofs.Told.{Told, told_at}
use Rattle.querygrammar.specs.Query.{later_figures, Figures, figures, variance_of}
use Rattle.querygrammar.proofs.Items.{figure_delimited}
use Rattle.queryitem.proofs.Chains.{byte_there, FailsAs, token_fails}
use Rattle.querypart.specs.Inner.{told_end, figures_end, variance_end}

-- the end of the text after a value
ended_over : {A : Type 0} (v : A) (size i : ℕ) → i ≡ size → ended 1 size (found v i) ≡ fine v
ended_over v size i e = rw (eq-eqb i size e)

ended_past : {A : Type 0} (v : A) (size i : ℕ) → i < size → ended 1 size (found v i) ≡ refused i
ended_past v size i h = rw (ne_eqb i size (λ z. omega arith), le-ltb size (i + 1) (omega arith))

told_on : {A B : Type 0} (size : ℕ) (to : B → ℕ) (c : A → B) (o : Outcome A) → told_end to size (on_fine c o) ≡ told_end (λ a. to (c a)) size o
unfolding on_fine
told_on size to c (fine a) = refl
told_on size to c (refused p) = refl
told_on size to c ends_short = refl

-- where l fails, q fails alike
record Carries {A B : Type 0} (l : Located A) (q : Located B) : Type 0 where
  pub wrongs : (p : ℕ) → l ≡ wrong_at p → q ≡ wrong_at p
  pub cuts : l ≡ short_here → q ≡ short_here

carries : {A B : Type 0} (l : Located A) (k : A → ℕ → Located B) (q : Located B) → q ≡ and_then l k → Carries l q
carries l k q e = record { wrongs = λ p z. e ∙ ap (λ l. and_then l k) z; cuts = λ z. e ∙ ap (λ l. and_then l k) z }

module _ (s : List ℕ) where
  abbrev end_of : {A : Type 0} → Format A → ℕ → Outcome A
  end_of f at = ended 1 (length s) (locate f s at)

  fails_go : {B : Type 0} (to : B → ℕ) (l : Located ℕ) (q : Located B) (r : Refusal) → Carries l q → (m : Located ℕ) → l ≡ m → FailsAs (length s) m r → Err r ≡ told_end to (length s) (ended 1 (length s) q)
  fails_go to l q r k (found v i) e h = absurd h
  fails_go to l q r k (wrong_at p) e h = ap Err h ∙ sym (ap (λ q. told_end to (length s) (ended 1 (length s) q)) (k.wrongs p e))
  fails_go to l q r k short_here e h = ap Err h ∙ sym (ap (λ q. told_end to (length s) (ended 1 (length s) q)) (k.cuts e))

  -- where a token fails, the whole fails alike
  end_fails : {B : Type 0} (to : B → ℕ) (g : Format ℕ) (i : ℕ) (q : Located B) (t : Answer ℕ Refusal) (r : Refusal) → Carries (locate g s i) q → t ≡ token_at g s i → t ≡ Err r → Err r ≡ told_end to (length s) (ended 1 (length s) q)
  end_fails to g i q t r k e h = fails_go to (locate g s i) q r k (locate g s i) refl (token_fails g s i t r e h)

  -- an optional part that begins with a unit: at the end, where the unit fails, and where it is there
  pub record Starts {A : Type 0} (u : Format ℕ) (f : Format A) (at : ℕ) : Type 0 where
    pub wrongs : (p : ℕ) → locate u s at ≡ wrong_at p → (p ≡ at) × (f.read (drop at s) ≡ other)
    pub cuts : locate u s at ≡ short_here → f.read (drop at s) ≡ short

  module _ {A : Type 0} (f : Format A) (at : ℕ) where
    more-end : at ≤ length s → length s ≤ at → f.read [] ≡ short → end_of (optional f) at ≡ fine none
    more-end h k o = ap (ended 1 (length s)) (optional_over f s at (omega arith) o) ∙ ended_over none (length s) at (omega arith)

    more-begun : at < length s → (f.read (drop at s) ≡ other → ⊥) → end_of (optional f) at ≡ on_fine some (end_of f at)
    more-begun h n = ap (ended 1 (length s)) (optional_open f s at h n) ∙ ended_on 1 (length s) some (locate f s at)

    more-fails : (to : Option A → ℕ) (u : Format ℕ) (t : Answer ℕ Refusal) (r : Refusal) → Starts u f at → at < length s → t ≡ token_at u s at → t ≡ Err r → Err r ≡ told_end to (length s) (end_of (optional f) at)
    more-fails to u t r k h e q = go (locate u s at) refl (token_fails u s at t r e q)
      where
        go : (l : Located ℕ) → locate u s at ≡ l → FailsAs (length s) l r → Err r ≡ told_end to (length s) (end_of (optional f) at)
        go (found v i) z q = absurd q
        go (wrong_at p) z q =
            let w = k.wrongs p z in
            ap Err (q ∙ ap TextWrong w.0) ∙ sym (ap (told_end to (length s)) (ap (ended 1 (length s)) (optional_none f s at (omega arith) w.1) ∙ ended_past none (length s) at h))
        go short_here z q = ap Err q ∙ sym (ap (λ l. told_end to (length s) (ended 1 (length s) l)) (optional_cut f s at h (k.cuts z)))

  -- FIGURES

  abbrev figure : Format ℕ
  figure = digit 0 9

  figure_there : (at v : ℕ) (t : Answer ℕ Refusal) → t ≡ token_at figure s at → t ≡ Ok v → Told 1 figure s at v
  figure_there at v t e q = told_at 1 1 figure (record { delimited = figure_delimited; size = λ v ok. refl }) s at v (sym e ∙ q)

  figure_starts : (at : ℕ) → Starts figure figure at
  figure_starts at = record { wrongs = λ p e. digit_wrong 9 (omega arith) s at p e; cuts = λ e. cut_reads figure s at e }

  later_starts : (at : ℕ) → Starts figure later_figures at
  later_starts at = record {
    wrongs = λ p e. let w = digit_wrong 9 (omega arith) s at p e in (w.0, sequence_other figure (λ b. optional figure) (drop at s) w.1);
    cuts = λ e. ap (λ r. first r λ a rest. second (λ b. (a, b)) rest ((optional figure).read rest)) (cut_reads figure s at e);
  }

  figure_reads : (at v : ℕ) → Told 1 figure s at v → figure.read (drop at s) ≡ value v (drop (at + 1) s)
  figure_reads at v k = (delimited_got 1 figure figure_delimited s at v (at + 1) k.is).reads

  -- one figure, and then what may follow it
  sequence_end : {B : Type 0} (g : Format B) (at v : ℕ) → Told 1 figure s at v → end_of (sequence figure λ a. g) at ≡ on_fine (λ b. (v, b)) (end_of g (at + 1))
  sequence_end g at v k =
      ap (ended 1 (length s)) (sequence_at 1 figure (λ a. g) figure_delimited s at ∙ ap (λ l. and_then l λ a i. on_found (λ b. (a, b)) (locate g s i)) k.is)
      ∙ ended_on 1 (length s) (λ b. (v, b)) (locate g s (at + 1))

  abbrev spelled : Figures → ℕ
  spelled f = variance_of (some f)

  module _ (at : ℕ) where
    first_fails : (t : Answer ℕ Refusal) (r : Refusal) → t ≡ token_at figure s at → t ≡ Err r → Err r ≡ figures_end s at
    unfolding figures_end
    first_fails t r =
        end_fails spelled figure at (locate figures s at) t r
        (carries (locate figure s at) (λ a i. on_found (λ b. (a, b)) (locate (optional later_figures) s i)) (locate figures s at)
        (sequence_at 1 figure (λ a. optional later_figures) figure_delimited s at))

    module _ (a : ℕ) (ka : Told 1 figure s at a) where
      after_first : figures_end s at ≡ told_end (λ b. spelled (a, b)) (length s) (end_of (optional later_figures) (at + 1))
      unfolding figures_end
      after_first = ap (told_end spelled (length s)) (sequence_end (optional later_figures) at a ka) ∙ told_on (length s) spelled (λ b. (a, b)) (end_of (optional later_figures) (at + 1))

      one-figure : length s ≤ at + 1 → Ok a ≡ figures_end s at
      one-figure h = sym (after_first ∙ ap (told_end (λ b. spelled (a, b)) (length s)) (more-end later_figures (at + 1) ka.room h refl))

      second_fails : (t : Answer ℕ Refusal) (r : Refusal) → at + 1 < length s → t ≡ token_at figure s (at + 1) → t ≡ Err r → Err r ≡ figures_end s at
      second_fails t r h e q = more-fails later_figures (at + 1) (λ b. spelled (a, b)) figure t r (later_starts (at + 1)) h e q ∙ sym after_first

      module _ (b : ℕ) (kb : Told 1 figure s (at + 1) b) where
        abbrev two : Option ℕ → ℕ
        two c = spelled (a, some (b, c))

        after-second : figures_end s at ≡ told_end two (length s) (end_of (optional figure) (at + 2))
        after-second =
            after_first
            ∙ ap (told_end (λ b. spelled (a, b)) (length s))
            (more-begun later_figures (at + 1) (let r = kb.room in omega arith) (sequence_begun figure (λ b. optional figure) (drop (at + 1) s) b (drop (at + 1 + 1) s) (figure_reads (at + 1) b kb))
            ∙ ap (on_fine some) (sequence_end (optional figure) (at + 1) b kb))
            ∙ told_on (length s) (λ b. spelled (a, b)) some (on_fine (λ c. (b, c)) (end_of (optional figure) (at + 1 + 1)))
            ∙ told_on (length s) (λ b. spelled (a, some b)) (λ c. (b, c)) (end_of (optional figure) (at + 1 + 1))
            ∙ ap (λ i. told_end two (length s) (end_of (optional figure) i)) (omega arith)

        room : at + 2 ≤ length s
        room = let r = kb.room in omega arith

        two-figures : length s ≤ at + 2 → Ok (a * 10 + b) ≡ figures_end s at
        two-figures h = sym (after-second ∙ ap (told_end two (length s)) (more-end figure (at + 2) room h refl))

        third-fails : (t : Answer ℕ Refusal) (r : Refusal) → at + 2 < length s → t ≡ token_at figure s (at + 2) → t ≡ Err r → Err r ≡ figures_end s at
        third-fails t r h e q = more-fails figure (at + 2) two figure t r (figure_starts (at + 2)) h e q ∙ sym after-second

        module _ (c : ℕ) (kc : Told 1 figure s (at + 2) c) where
          after-third : figures_end s at ≡ told_end (λ c. two (some c)) (length s) (ended 1 (length s) (found c (at + 3)))
          after-third =
              after-second
              ∙ ap (told_end two (length s)) (more-begun figure (at + 2) (let r = kc.room in omega arith) (λ e. value_other (sym (figure_reads (at + 2) c kc) ∙ e)))
              ∙ told_on (length s) two some (end_of figure (at + 2))
              ∙ ap (λ l. told_end (λ c. two (some c)) (length s) (ended 1 (length s) l)) (kc.is ∙ ap (found c) (omega arith))

          three-figures : length s ≤ at + 3 → Ok ((a * 10 + b) * 10 + c) ≡ figures_end s at
          three-figures h = sym (after-third ∙ ap (told_end (λ c. two (some c)) (length s)) (ended_over c (length s) (at + 3) (let r = kc.room in omega arith)))

          four-figures : at + 3 < length s → Err (TextWrong (at + 3)) ≡ figures_end s at
          four-figures h = sym (after-third ∙ ap (told_end (λ c. two (some c)) (length s)) (ended_past c (length s) (at + 3) h))

    -- the figures before an offset, as a number
    pub data Figured (i n : ℕ) : Type 0 where
      no_figure : i ≡ at → n ≡ 0 → Figured i n
      one_figure : (a : ℕ) → Told 1 figure s at a → at + 1 < length s → i ≡ at + 1 → n ≡ a → Figured i n
      two_figures : (a : ℕ) → Told 1 figure s at a → (b : ℕ) → Told 1 figure s (at + 1) b → at + 2 < length s → i ≡ at + 2 → n ≡ a * 10 + b → Figured i n
      three_figures : (a : ℕ) → Told 1 figure s at a → (b : ℕ) → Told 1 figure s (at + 1) b → (c : ℕ) → Told 1 figure s (at + 2) c → at + 3 < length s → i ≡ at + 3 → n ≡ (a * 10 + b) * 10 + c
          → Figured i n

    pub figured_most : (i n : ℕ) → Figured i n → i < at + 3 → n ≤ 99
    figured_most i n (no_figure x y) l = omega arith
    figured_most i n (one_figure a ka h x y) l = omega (arith, ka.valid.1)
    figured_most i n (two_figures a ka b kb h x y) l = omega (arith, ka.valid.1, kb.valid.1)
    figured_most i n (three_figures a ka b kb c kc h x y) l = absurd (omega arith)

    pub figured_past : (i n : ℕ) → Figured i n → at + 3 ≤ i → Err (TextWrong (at + 3)) ≡ figures_end s at
    figured_past i n (no_figure x y) l = absurd (omega arith)
    figured_past i n (one_figure a ka h x y) l = absurd (omega arith)
    figured_past i n (two_figures a ka b kb h x y) l = absurd (omega arith)
    figured_past i n (three_figures a ka b kb c kc h x y) l = four-figures a ka b kb c kc h

    -- and the next one
    module _ (i n : ℕ) (l : i < at + 3) (t : Answer ℕ Refusal) (told : t ≡ token_at figure s i) where
      next_fails : Figured i n → (r : Refusal) → t ≡ Err r → Err r ≡ figures_end s at
      next_fails (no_figure x y) r v = first_fails t r (rw x at told) v
      next_fails (one_figure a ka h x y) r v = second_fails a ka t r h (rw x at told) v
      next_fails (two_figures a ka b kb h x y) r v = third-fails a ka b kb t r h (rw x at told) v
      next_fails (three_figures a ka b kb c kc h x y) r v = absurd (omega arith)

      module _ (d : ℕ) (v : t ≡ Ok d) where
        there : (j : ℕ) → i ≡ j → Told 1 figure s j d
        there j x = figure_there j d t (rw x at told) v

        next_ends : Figured i n → length s ≤ i + 1 → Ok (n * 10 + d) ≡ figures_end s at
        next_ends (no_figure x y) m = ap Ok (omega arith) ∙ one-figure d (there at x) (omega arith)
        next_ends (one_figure a ka h x y) m = ap (λ n. Ok (n * 10 + d)) y ∙ two-figures a ka d (there (at + 1) x) (omega arith)
        next_ends (two_figures a ka b kb h x y) m = ap (λ n. Ok (n * 10 + d)) y ∙ three-figures a ka b kb d (there (at + 2) x) (omega arith)
        next_ends (three_figures a ka b kb c kc h x y) m = absurd (omega arith)

        next_more : Figured i n → i + 1 < length s → Figured (i + 1) (n * 10 + d)
        next_more (no_figure x y) m = one_figure d (there at x) (omega arith) (omega arith) (omega arith)
        next_more (one_figure a ka h x y) m = two_figures a ka d (there (at + 1) x) (omega arith) (omega arith) (ap (λ n. n * 10 + d) y)
        next_more (two_figures a ka b kb h x y) m = three_figures a ka b kb d (there (at + 2) x) (omega arith) (omega arith) (ap (λ n. n * 10 + d) y)
        next_more (three_figures a ka b kb c kc h x y) m = absurd (omega arith)

    pub figured_fails : (i n : ℕ) → Figured i n → i < at + 3 → (t : Answer ℕ Refusal) (r : Refusal) → t ≡ token_at figure s i → t ≡ Err r → Err r ≡ figures_end s at
    figured_fails i n f l t r e = next_fails i n l t e f r

    pub figured_ends : (i n : ℕ) → Figured i n → i < at + 3 → (t : Answer ℕ Refusal) (d : ℕ) → t ≡ token_at figure s i → t ≡ Ok d → length s ≤ i + 1 → Ok (n * 10 + d) ≡ figures_end s at
    figured_ends i n f l t d e v = next_ends i n l t e d v f

    pub figured_more : (i n : ℕ) → Figured i n → i < at + 3 → (t : Answer ℕ Refusal) (d : ℕ) → t ≡ token_at figure s i → t ≡ Ok d → i + 1 < length s → Figured (i + 1) (n * 10 + d)
    figured_more i n f l t d e v = next_more i n l t e d v f

    pub figured_digit : (i d : ℕ) (t : Answer ℕ Refusal) → t ≡ token_at figure s i → t ≡ Ok d → d ≤ 9
    figured_digit i d t e v = (figure_there i d t e v).valid.1

  -- THE VARIANCE

  abbrev said : Format Figures
  said = after 86 figures

  said_empty : said.read [] ≡ short
  said_empty = refl

  v_starts : (at : ℕ) → Starts (byte 86) said at
  v_starts at = record {
    wrongs = λ p e. let w = byte_wrong 86 s at p e in (w.0, after_other 86 figures (drop at s) w.1);
    cuts = λ e. cut_reads said s at (after_at 86 figures s at ∙ ap (λ l. and_then l λ a i. locate figures s i) e);
  }

  module _ (at : ℕ) where
    pub unsaid : at ≤ length s → length s ≤ at → Ok 20 ≡ variance_end s at
    unfolding variance_end
    unsaid h k = sym (ap (told_end variance_of (length s)) (more-end said at h k said_empty))

    pub v_fails : (t : Answer ℕ Refusal) (r : Refusal) → at < length s → t ≡ token_at (byte 86) s at → t ≡ Err r → Err r ≡ variance_end s at
    unfolding variance_end
    v_fails t r h e q = more-fails said at variance_of (byte 86) t r (v_starts at) h e q

    pub v_said : (a : ℕ) (t r : Answer ℕ Refusal) → t ≡ token_at (byte 86) s at → t ≡ Ok a → at < length s → r ≡ figures_end s (at + 1) → r ≡ variance_end s at
    unfolding variance_end figures_end
    v_said a t r e v h q =
        let l = byte_there 86 s at a t e v in
        let g = delimited_got 1 (byte 86) (byte_delimited 86) s at a (at + 1) l in
        q
        ∙ sym (ap (told_end variance_of (length s))
        (more-begun said at h (after_begun 86 figures (drop at s) a (drop (at + 1) s) g.reads)
        ∙ ap (λ l. on_fine some (ended 1 (length s) l)) (after_at 86 figures s at ∙ ap (λ l. and_then l λ a i. locate figures s i) l))
        ∙ told_on (length s) variance_of some (end_of figures (at + 1)))

    pub v_room : (a : ℕ) (t : Answer ℕ Refusal) → t ≡ token_at (byte 86) s at → t ≡ Ok a → at + 1 ≤ length s
    v_room a t e v = (delimited_got 1 (byte 86) (byte_delimited 86) s at a (at + 1) (byte_there 86 s at a t e v)).room
