-- The laws of shifting and centring.
use Rattle.charset.specs.declared.Charset.{Charset}
use Rattle.moving.specs.MovingLaws.{MovingLaws}
use Rattle.moving.proofs.Unmoved.{still}
use Rattle.moving.proofs.Recentred.{again}
use Rattle.moving.proofs.Repeated.{repeated, unchanged}
use Rattle.moving.proofs.Kept.{shifted, centred}

pub moving_laws : (set : Charset) → MovingLaws set
moving_laws set = record { still = still set; again = again set; repeated = repeated set; unchanged = unchanged set; shifted = shifted set; centred = centred set }
