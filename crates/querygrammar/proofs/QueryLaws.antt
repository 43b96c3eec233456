-- The laws of queries in every edition, from the laws of every format.
use mathlib.Core.Path.{refl}
use Rattle.format.proofs.Reading.{fine_exactly}
use Rattle.format.proofs.Places.{by_bytes}
use Rattle.charset.specs.declared.Charset.TheVariants.{Fsw, Swu}
use Rattle.querygrammar.specs.declared.Edition.{Edition}
use Rattle.querygrammar.specs.declared.Edition.TheVariants.{First, Second}
use Rattle.querygrammar.specs.Spelling.{first, second_fsw, second_swu, spelling}
use Rattle.querygrammar.specs.Query.{query}
use Rattle.querygrammar.specs.QueryLaws.{Places, QueryLaws}
use Rattle.querygrammar.proofs.Items.{lawful}
use Rattle.querygrammar.proofs.Query.{query_lawful, query_ready}
use Rattle.querygrammar.proofs.ExactQuery.{swu_exact}
use Rattle.querygrammar.proofs.QueryPlaces.{fsw_places}

places : (e : Edition) → Places e
places First = fsw_places first (lawful First)
places (Second Fsw) = fsw_places second_fsw (lawful (Second Fsw))
places (Second Swu) = by_bytes (query second_swu) swu_exact (query_ready second_swu (lawful (Second Swu)))

pub query_laws : (e : Edition) → QueryLaws e
query_laws e =
    let f = query (spelling e) in
    let law = fine_exactly 1 f (query_lawful (spelling e) (lawful e)) (query_ready (spelling e) (lawful e)) in
    record {
      reads = λ t ok. (law (f.write t) t).1 (ok, refl);
      writes = λ text t e. (law text t).0 e;
      places = places e;
    }
