-- The loop over prefix symbols and the loop over spatial symbols: one law for each way on or out.
use Prim.Native.Nat.{ℕ, ◌+◌, ◌≤◌, ◌<◌}
use mathlib.Core.List.{List, [], ◌∷◌, ◌++◌, map}
use mathlib.Core.Path.{◌≡◌, sym, ap, ◌∙◌}
use lib.ListN.{length, set as set_at}
use Rattle.format.specs.Format.{Format}
use Rattle.format.specs.Located.{Located, found, wrong_at, short_here, locate}
use Rattle.format.proofs.Delimited.{Fixed}
use Rattle.charset.specs.declared.Charset.{Charset}
use Rattle.charset.specs.Tokens.{Tokens, tokens}
use Rattle.charset.proofs.Sets.{lawful}
use Rattle.grammar.specs.Sign.{prefix_symbol, spatial}
use Rattle.grammar.specs.Size.{spatial_size}
use Rattle.grammar.proofs.Sign.{symbol_fixed, spatial_fixed}
use Rattle.std.specs.Prelude.{Result as Answer, Ok, Err}
use Rattle.token.specs.declared.refusal.Refusal.{Refusal}
use Rattle.token.specs.declared.refusal.Refusal.TheVariants.{TextWrong, TextShort}
use Rattle.token.specs.Result.{outcome}
use Rattle.token.specs.Token.{told, token_at}
use Rattle.token.proofs.Results.{token_result_lem, value_there, value_wrong}
use Rattle.part.specs.declared.reading.Placed.{Placed}
use Rattle.part.specs.Placed.{of_placed, placed_at, placed_result, told_placed}
use Rattle.part.proofs.Placing.{placed_result_lem}
use Rattle.grammar.specs.declared.Symbols.{Symbols}
use Rattle.reader.specs.declared.arrays.Count.{Count}
use Rattle.token.specs.Padded.{padded, zeros}
use Rattle.token.proofs.PaddedLists.{padded_none}
use Rattle.reader.specs.Inner.{PrefixIn, Room, SymbolsIn}
use Rattle.reader.proofs.Filling.{Progress, progress_start, progress_on, grows, put_more, held_length, Out, out_stop, out_end, out_refused}

module _ (set : Charset) where
  abbrev t : Tokens
  t = tokens set

  abbrev pre : Format ℕ
  pre = prefix_symbol (tokens set)

  fixed : Fixed (tokens set).unit (tokens set).symbol_size (prefix_symbol (tokens set))
  fixed = symbol_fixed (tokens set) (lawful set)

  pub record PrefixInv (s : List ℕ) (at n i : ℕ) (codes : List ℕ) : Type 0 where
    pub read : List ℕ
    pub progress : Progress (prefix_symbol (tokens set)) s at i n read
    pub holds : codes ≡ padded 32 (map (λ c. c) read)

  pub prefix_start : (s : List ℕ) (at : ℕ) (codes : List ℕ) → at ≤ length s → codes ≡ zeros 32 → PrefixInv s at 0 at codes
  prefix_start s at codes h e = record { read = []; progress = progress_start pre s at h; holds = e ∙ padded_none 32 }

  module _ (s : List ℕ) (at n i : ℕ) (codes : List ℕ) (v : PrefixInv s at n i codes) where
    pub prefix_length : length codes ≡ 32
    prefix_length = held_length 32 (λ c. c) v.read codes v.holds

    module _ (code size : ℕ) (e : token_at pre s i ≡ Ok code) (k : size ≡ t.symbol_size) where
      same : Fixed t.unit size pre
      same = rw k fixed

      there : locate pre s i ≡ found code (i + size)
      there = value_there t.unit size pre same s i code (sym (token_result_lem pre s i) ∙ ap outcome e)

      pub prefix-grows : (1 ≤ size) × (i + size ≤ length s)
      prefix-grows = grows t.unit size pre same s at i n v.read v.progress code there

      pub prefix_on : (next : List ℕ) → next ≡ set_at codes n code → PrefixInv s at (n + 1) (i + size) next
      prefix_on next p = record {
        read = v.read ++ (code ∷ []);
        progress = progress_on t.unit size pre same s at i n v.read v.progress code there;
        holds = put_more 32 (λ c. c) v.read code n codes next v.holds v.progress.count p;
      }

    prefix-out : {r : Answer Count Refusal} → Out pre s at v.read r → PrefixIn set s at r codes
    prefix-out o = record { is = o.is; holds = o.holds 32 (λ c. c) codes v.holds }

    pub prefix_stop : token_at pre s i ≡ Err (TextWrong i) → PrefixIn set s at (Ok (record { count = n; end = i })) codes
    prefix_stop e =
        prefix-out (out_stop t.unit t.symbol_size pre fixed s at i n v.read v.progress
        (value_wrong pre s i i (sym (token_result_lem pre s i) ∙ ap outcome e)))

    pub prefix_end : length s ≤ i → PrefixIn set s at (Ok (record { count = n; end = i })) codes
    prefix_end h = prefix-out (out_end t.unit t.symbol_size pre fixed s at i n v.read v.progress h)

    pub prefix_refused : (e : Refusal) → token_at pre s i ≡ Err e → (e ≡ TextWrong i → ⊥) → i < length s → PrefixIn set s at (Err e) codes
    unfolding token_at
    prefix_refused e q z h = prefix-out (out_refused t.unit t.symbol_size pre fixed s at i n v.read v.progress e q z h)

  abbrev spa : Format (ℕ × (ℕ × ℕ))
  spa = spatial (tokens set)

  spa_fixed : Fixed (tokens set).unit (spatial_size set) (spatial (tokens set))
  spa_fixed = spatial_fixed (tokens set) (lawful set)

  -- what is placed was located
  placed-told : (size : ℕ) (l : Located (ℕ × (ℕ × ℕ))) (e : Refusal) → told_placed size l ≡ Err e → told size l ≡ Err e
  placed-told size (found a i) e q = absurd (cc q)
  placed-told size (wrong_at p) e q = let k : TextWrong p ≡ e = cc in ap Err k
  placed-told size short_here e q = let k : TextShort size ≡ e = cc in ap Err k

  pub record SymbolsInv (s : List ℕ) (at n i : ℕ) (old new : Symbols) : Type 0 where
    pub read : List (ℕ × (ℕ × ℕ))
    pub progress : Progress (spatial (tokens set)) s at i n read
    pub prefix : new.prefix ≡ old.prefix
    pub codes : new.codes ≡ padded 64 (map (λ p. p.0) read)
    pub xs : new.xs ≡ padded 64 (map (λ p. p.1.0) read)
    pub ys : new.ys ≡ padded 64 (map (λ p. p.1.1) read)

  pub symbols_start : (s : List ℕ) (at : ℕ) (old : Symbols) → at ≤ length s → Room old → SymbolsInv s at 0 at old old
  symbols_start s at old h r = record {
    read = [];
    progress = progress_start spa s at h;
    prefix = λ i. old.prefix;
    codes = r.codes ∙ padded_none 64;
    xs = r.xs ∙ padded_none 64;
    ys = r.ys ∙ padded_none 64;
  }

  module _ (s : List ℕ) (at n i : ℕ) (old new : Symbols) (v : SymbolsInv s at n i old new) where
    module _ (p : Placed) (size : ℕ) (e : placed_at spa s i ≡ Ok p) (k : size ≡ spatial_size set) where
      spa-same : Fixed t.unit size spa
      spa-same = rw k spa_fixed

      spa-there : locate spa s i ≡ found (of_placed p) (i + size)
      spa-there = value_there t.unit size spa spa-same s i (of_placed p) (sym (placed_result_lem spa s i) ∙ ap placed_result e)

      pub symbols-grows : (1 ≤ size) × (i + size ≤ length s)
      symbols-grows = grows t.unit size spa spa-same s at i n v.read v.progress (of_placed p) spa-there

      pub symbols-on : (next : Symbols) → next.prefix ≡ new.prefix → next.codes ≡ set_at new.codes n p.value → next.xs ≡ set_at new.xs n p.x → next.ys ≡ set_at new.ys n p.y
          → SymbolsInv s at (n + 1) (i + size) old next
      symbols-on next ep ec ex ey =
          let d = v.read in
          let m = v.progress.count in
          record {
            read = d ++ (of_placed p ∷ []);
            progress = progress_on t.unit size spa spa-same s at i n v.read v.progress (of_placed p) spa-there;
            prefix = ep ∙ v.prefix;
            codes = put_more {A = ℕ × (ℕ × ℕ)} 64 (λ p. p.0) d (of_placed p) n new.codes next.codes v.codes m ec;
            xs = put_more {A = ℕ × (ℕ × ℕ)} 64 (λ p. p.1.0) d (of_placed p) n new.xs next.xs v.xs m ex;
            ys = put_more {A = ℕ × (ℕ × ℕ)} 64 (λ p. p.1.1) d (of_placed p) n new.ys next.ys v.ys m ey;
          }

    symbols-out : {r : Answer Count Refusal} → Out spa s at v.read r → SymbolsIn set s at r old new
    symbols-out o = record {
      is = o.is;
      prefix = v.prefix;
      holds_codes = o.holds 64 (λ p. p.0) new.codes v.codes;
      holds_xs = o.holds 64 (λ p. p.1.0) new.xs v.xs;
      holds_ys = o.holds 64 (λ p. p.1.1) new.ys v.ys;
    }

    pub symbols_stop : placed_at spa s i ≡ Err (TextWrong i) → SymbolsIn set s at (Ok (record { count = n; end = i })) old new
    symbols_stop e =
        symbols-out (out_stop t.unit (spatial_size set) spa spa_fixed s at i n v.read v.progress
        (value_wrong spa s i i (sym (placed_result_lem spa s i) ∙ ap placed_result e)))

    pub symbols_end : length s ≤ i → SymbolsIn set s at (Ok (record { count = n; end = i })) old new
    symbols_end h = symbols-out (out_end t.unit (spatial_size set) spa spa_fixed s at i n v.read v.progress h)

    pub symbols_refused : (e : Refusal) → placed_at spa s i ≡ Err e → (e ≡ TextWrong i → ⊥) → i < length s → SymbolsIn set s at (Err e) old new
    unfolding placed_at
    symbols_refused e q z h =
        symbols-out (out_refused t.unit (spatial_size set) spa spa_fixed s at i n v.read v.progress e (placed-told (length s) (locate spa s i) e q) z h)
