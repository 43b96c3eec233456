-- Keys and characters are inverse to codes, and have the law of places.
use Prim.Native.Nat.{ℕ, ◌≤◌}
use mathlib.Core.Path.{◌≡◌, refl, sym, ap, ◌∙◌}
use mathlib.Core.List.{List, []}
use mathlib.Core.Logic.{◌↔◌}
use mathlib.Core.Bool.{Bool, true, false}
use lib.Dec.{ltb}
use lib.ListN.{length}
use native.Mathlib.Omega.{arith}
use borrow.Author.Tests.{ltb-false}
use Rattle.format.specs.Format.{choose}
use Rattle.format.specs.Places.{Outcome, fine, refused, ends_short, reading}
use Rattle.format.proofs.Reading.{fine_exactly}
use Rattle.format.proofs.Exact.{Exact}
use Rattle.format.proofs.Places.{exactly, by_bytes}
use Rattle.charset.specs.declared.Charset.{Charset}
use Rattle.charset.specs.declared.Charset.TheVariants.{Fsw, Swu}
use Rattle.charset.specs.Tokens.{tokens, last_punctuation}
use Rattle.charset.proofs.Sets.{exact}
use Rattle.token.specs.Result.{refusal, done, of_outcome}
use Rattle.token.specs.Symbol.{any_symbol}
use Rattle.symbol.specs.Codes.{code_of, code_text}
use Rattle.symbol.specs.CodeLaws.{CodeLaws, KeyPlaces}
use Rattle.symbol.proofs.Codes.{code_fine}
use Rattle.symbol.proofs.CodeReads.{symbol_fixed}

-- what can be said in either set
valid : (set : Charset) (code : ℕ) → code ≤ 62592 → (any_symbol set).Valid code
valid Fsw code h = (omega arith, h)
valid Swu code h = (omega arith, h)

bounded : (set : Charset) (code : ℕ) → (any_symbol set).Valid code → code ≤ 62592
bounded Fsw code ok = ok.1
bounded Swu code ok = ok.1

ready : (set : Charset) (code : ℕ) → (any_symbol set).Valid code → (any_symbol set).Follow code []
ready set code ok = (symbol_fixed set).delimited.free code [] ok

symbol_fine : (set : Charset) (text : List ℕ) (code : ℕ)
    → (reading (tokens set).unit (any_symbol set) text ≡ fine code) ↔ ((any_symbol set).Valid code × (text ≡ (any_symbol set).write code))
symbol_fine set = fine_exactly (tokens set).unit (any_symbol set) (symbol_fixed set).delimited.lawful (ready set)

symbol_exact : (set : Charset) → Exact (tokens set).unit (any_symbol set)
symbol_exact Fsw = (exact Fsw).symbol_or_null last_punctuation (omega arith) (omega arith)
symbol_exact Swu = (exact Swu).symbol_or_null last_punctuation (omega arith) (omega arith)

written_go : (set : Charset) (code : ℕ) (text : List ℕ) (t : Bool) → ltb 62592 code ≡ t
    → choose t (refusal 15 0) (done ((any_symbol set).write code)) ≡ done text → (code ≤ 62592) × ((any_symbol set).write code ≡ text)
written_go set code text true q e = absurd (let z : ◌≡◌ {A = ℕ} 0 1 = cc in omega arith)
written_go set code text false q e = (ltb-false 62592 code q, cc)

written : (set : Charset) (code : ℕ) (text : List ℕ) → code_text set code ≡ done text → (code ≤ 62592) × ((any_symbol set).write code ≡ text)
unfolding code_text
written set code text e = written_go set code text (ltb 62592 code) refl e

reads : (set : Charset) (code : ℕ) (text : List ℕ) → code_text set code ≡ done text → code_of set text ≡ done code
reads set code text e =
    let w = written set code text e in
    ap (of_outcome (length text)) ((symbol_fine set text code).1 (valid set code w.0, sym w.1))

read_go : (set : Charset) (text : List ℕ) (code : ℕ) (o : Outcome ℕ) → reading (tokens set).unit (any_symbol set) text ≡ o → of_outcome (length text) o ≡ done code
    → (any_symbol set).Valid code × (text ≡ (any_symbol set).write code)
read_go set text code (fine c) q e =
    let z : c ≡ code = cc in rw z at ((symbol_fine set text c).0 q)
read_go set text code (refused p) q e = absurd (let z : ◌≡◌ {A = ℕ} 0 1 = cc in omega arith)
read_go set text code ends_short q e = absurd (let z : ◌≡◌ {A = ℕ} 0 1 = cc in omega arith)

pub read : (set : Charset) (text : List ℕ) (code : ℕ) → code_of set text ≡ done code → (code ≤ 62592) × (text ≡ (any_symbol set).write code)
read set text code e =
    let r = read_go set text code (reading (tokens set).unit (any_symbol set) text) refl e in
    (bounded set code r.0, r.1)

writes : (set : Charset) (text : List ℕ) (code : ℕ) → code_of set text ≡ done code → code_text set code ≡ done text
writes set text code e = let r = read set text code e in code_fine set code r.0 ∙ ap done (sym r.1)

pub code_laws : (set : Charset) → CodeLaws set
code_laws set = record { reads = reads set; writes = writes set; all = code_fine set; places = exactly (tokens set).unit (any_symbol set) (symbol_exact set) (ready set) }

pub key_places : KeyPlaces
key_places = by_bytes (any_symbol Fsw) (symbol_exact Fsw) (ready Fsw)
