-- Every law of records holds.
use Rattle.stylinggrammar.specs.RecordLaws.{RecordLaws}
use Rattle.stylinggrammar.proofs.RecordBlocks.{record_size_lem}
use Rattle.stylinggrammar.proofs.Back.{record_back}
use Rattle.stylinggrammar.proofs.Fills.{record_fills}

pub record_laws : RecordLaws
record_laws = record { size = record_size_lem; back = record_back; fills = record_fills }
