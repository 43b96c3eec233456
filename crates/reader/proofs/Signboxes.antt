-- From the lead and the symbols of a signbox to the signbox: one law for each return.
use Prim.Native.Nat.{ℕ, ◌+◌, ◌≤◌}
use mathlib.Core.List.{List, map, map-map}
use mathlib.Core.Path.{◌≡◌, refl, sym, ap, ◌∙◌}
use lib.ListN.{length}
use Rattle.format.specs.Format.{many}
use Rattle.format.specs.Located.{found, locate, on_found}
use Rattle.format.proofs.Delimited.{Fixed}
use Rattle.format.proofs.At.{fixed_got, sequence_at}
use Rattle.charset.specs.declared.Charset.{Charset}
use Rattle.charset.specs.Tokens.{Tokens, tokens}
use Rattle.charset.proofs.Sets.{lawful}
use Rattle.grammar.specs.Sign.{Spatial, lead, spatial, signbox, to_spatial}
use Rattle.grammar.specs.Size.{lead_size}
use Rattle.grammar.proofs.Sign.{lead_fixed}
use Rattle.std.specs.Prelude.{Result as Answer, Ok, Err}
use Rattle.token.specs.declared.refusal.Refusal.{Refusal}
use Rattle.token.specs.Refusal.{number_of, place_of}
use Rattle.token.specs.Result.{Result, refusal, done, outcome, on_done, and_then, of_located, result_at}
use Rattle.token.proofs.Results.{on_done_refusal, value_there, then_result, on_result}
use Rattle.part.specs.declared.reading.Placed.{Placed}
use Rattle.part.specs.Placed.{of_placed, placed_at, placed_result}
use Rattle.part.proofs.Placing.{placed_result_lem}
use Rattle.grammar.specs.declared.Head.{Head}
use Rattle.grammar.specs.declared.Symbols.{Symbols}
use Rattle.reader.specs.declared.arrays.Count.{Count}
use Rattle.token.specs.Padded.{padded}
use Rattle.reader.specs.Inner.{count_of, box_head, Holds, HoldsBox, SymbolsIn, SignboxIn}
use Rattle.reader.proofs.Counts.{was_refused, Read, was_read}

abbrev pub Box : Type 0
Box = (ℕ × (ℕ × ℕ)) × List (ℕ × (ℕ × ℕ))

module _ (set : Charset) (s : List ℕ) (at n : ℕ) where
  abbrev t : Tokens
  t = tokens set

  abbrev symbols_at : ℕ → Result (List (ℕ × (ℕ × ℕ)) × ℕ)
  symbols_at i = result_at (many (spatial (tokens set))) s i

  -- a signbox with this lead
  abbrev boxed : ℕ × (ℕ × ℕ) → Result (List (ℕ × (ℕ × ℕ)) × ℕ) → Result (Box × ℕ)
  boxed h = on_done (λ p. ((h, p.0), p.1))

  box_at : result_at (signbox t) s at ≡ and_then (result_at (lead t) s at) λ h. boxed h.0 (symbols_at h.1)
  box_at =
      ap (of_located (length s)) (sequence_at t.unit (lead t) (λ h. many (spatial t)) (lead_fixed t (lawful set)).delimited s at)
      ∙ then_result (length s) (λ h i. on_found (λ l. (h, l)) (locate (many (spatial t)) s i)) (locate (lead t) s at)
      ∙ ap (and_then (result_at (lead t) s at)) (λ i h. on_result (length s) (λ l. (h.0, l)) (locate (many (spatial t)) s h.1) i)

  module _ (old new : Symbols) (same : new.prefix ≡ old.prefix) where
    box-as : (x : Result (Box × ℕ)) (r : Answer (Head × ℕ) Refusal) → result_at (signbox t) s at ≡ x → outcome r ≡ on_done (λ p. (box_head n p.0, p.1)) x
        → HoldsBox x new → SignboxIn set s at n r old new
    box-as x r e q h = record { is = rw e q; prefix = same; holds = rw e h }

  -- the lead was refused
  pub box_leadless : (symbols : Symbols) (e : Refusal) → placed_at (lead t) s at ≡ Err e → SignboxIn set s at n (Err e) symbols symbols
  box_leadless symbols e q =
      let k : result_at (lead t) s at ≡ refusal (number_of e) (place_of e) =
      on_done_refusal (λ r. r.0) (result_at (lead t) s at) (number_of e) (place_of e) (sym (placed_result_lem (lead t) s at) ∙ ap placed_result q) in
      box-as symbols symbols (λ i. symbols.prefix) (refusal (number_of e) (place_of e)) (Err e)
      (box_at ∙ ap (λ r. and_then r λ h. boxed h.0 (symbols_at h.1)) k) refl tt

  module _ (m : Placed) (w : ℕ) (e : placed_at (lead t) s at ≡ Ok m) (k : w ≡ lead_size set) where
    lead-same : Fixed t.unit w (lead t)
    lead-same = rw k (lead_fixed t (lawful set))

    lead-there : locate (lead t) s at ≡ found (of_placed m) (at + w)
    lead-there = value_there t.unit w (lead t) lead-same s at (of_placed m) (sym (placed_result_lem (lead t) s at) ∙ ap placed_result e)

    pub lead_room : at + w ≤ length s
    lead_room = (fixed_got t.unit w (lead t) lead-same s at (of_placed m) (at + w) lead-there).1.room

    box-then : result_at (signbox t) s at ≡ boxed (of_placed m) (symbols_at (at + w))
    box-then = box_at ∙ ap (λ l. and_then (of_located (length s) l) λ h. boxed h.0 (symbols_at h.1)) lead-there

    module _ (r : Answer Count Refusal) (old new : Symbols) (v : SymbolsIn set s (at + w) r old new) where
      pub box-refused : (e : Refusal) → r ≡ Err e → SignboxIn set s at n (Err e) old new
      box-refused e q =
          box-as old new v.prefix (refusal (number_of e) (place_of e)) (Err e)
          (box-then ∙ ap (boxed (of_placed m)) (was_refused count_of (symbols_at (at + w)) r e v.is q)) refl tt

      module _ (c : Count) (d : Read (symbols_at (at + w)) c) where
        holds : (of : ℕ × (ℕ × ℕ) → ℕ) (to : Spatial → ℕ) (array : List ℕ) → ((q : ℕ × (ℕ × ℕ)) → to (to_spatial q) ≡ of q) → Holds 64 of (symbols_at (at + w)) array
            → array ≡ padded 64 (map to (map to_spatial d.symbols))
        holds of to array same q =
            let p : array ≡ padded 64 (map of d.symbols) = rw d.is at q in
            p ∙ ap (padded 64) (sym (map-map to to_spatial d.symbols ∙ λ i. map (λ k. same k i) d.symbols))

      pub box_read : (c : Count) → r ≡ Ok c
          → SignboxIn set s at n (Ok (record { marker = m.value; max_x = m.x; max_y = m.y; prefix_count = n; symbol_count = c.count }, c.end)) old new
      box_read c q =
          let d = was_read (symbols_at (at + w)) r c v.is q in
          box-as old new v.prefix (done ((of_placed m, d.symbols), c.end)) _ (box-then ∙ ap (boxed (of_placed m)) d.is)
          (λ i. done (record { marker = m.value; max_x = m.x; max_y = m.y; prefix_count = n; symbol_count = d.count i }, c.end))
          (record {
            codes = holds c d (λ p. p.0) (λ s. s.code) new.codes (λ q. refl) v.holds_codes;
            xs = holds c d (λ p. p.1.0) (λ s. s.x) new.xs (λ q. refl) v.holds_xs;
            ys = holds c d (λ p. p.1.1) (λ s. s.y) new.ys (λ q. refl) v.holds_ys;
          })
