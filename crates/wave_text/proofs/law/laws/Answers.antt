use Rattle.wave_text.proofs.Played.{played_back, played_snapshots}
use Rattle.wave_text.proofs.law.laws.Goals as goal

pub returns : goal.returns
returns c = record { codes = played_back; snapshots = played_snapshots }
