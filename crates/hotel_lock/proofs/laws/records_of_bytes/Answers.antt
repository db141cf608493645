use Rattle.std.proofs.Common.{sym, ◌∙◌}
use Rattle.csv.specs.Reading.{default_config, strip_bom}
use Rattle.hotel_lock.proofs.Records.{AreRecords-records}
use Rattle.hotel_lock.proofs.laws.records_of_bytes.Goals as goal

pub returns : goal.returns
returns c = record {
  gives = λ bytes rows h. AreRecords-records default_config (strip_bom bytes) rows h;
  one = λ bytes rows more h k. AreRecords-records default_config (strip_bom bytes) rows h
      ∙ sym (AreRecords-records default_config (strip_bom bytes) more k);
}
