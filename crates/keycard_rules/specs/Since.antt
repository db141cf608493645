-- From an old state to a new one nothing is mended and no failure is forgotten.
use Rattle.std.specs.Prelude.{◌≤◌}
use Rattle.keycard_rules.specs.{declared.kept.Kept.Ghosts as KeptOf, Rise.NoFewer}

-- What is clean was clean, what is honest was honest, and no fewer failures are counted.
pub record Since {S : Type 0} (K : KeptOf S) (old new : S) : Type 0 where
  pub was_clean : K.is_clean new → K.is_clean old
  pub was_honest : K.is_honest new → K.is_honest old
  pub counted : NoFewer (K.failures old) (K.failures new)
  pub disk : K.disk_failures old ≤ K.disk_failures new
