-- What is lent beside the hub and the row of slots, before anything is written to it.
use Rattle.std.specs.Prelude.{replicate}
use Rattle.state.specs.declared.Lent.{Lent}

abbrev pub blank_lent : Lent
blank_lent =
    record {
      newest = replicate 256 0;
      free = replicate 2048 0;
      queue = replicate 12288 0;
      lens = replicate 4096 0;
      merged = replicate 12288 0;
    }
