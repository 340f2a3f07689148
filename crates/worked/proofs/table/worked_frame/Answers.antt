use Rattle.std.proofs.Common.{refl}
use Rattle.checksum.specs.Division.{parity_of, parity, octet_bits, bits_of, reduced}
use Rattle.worked.proofs.table.worked_frame.Goals as goal

pub returns-clause-table : goal.returns-clause-table
unfolding parity_of parity octet_bits bits_of reduced
returns-clause-table c = (
  record { header = refl; tells = refl },
  (
    record { header = refl; tells = refl },
    (
      record { header = refl; tells = refl },
      (
        record { header = refl; tells = refl },
        (
          record { header = refl; tells = refl },
          (
            record { header = refl; tells = refl },
            (record { header = refl; tells = refl }, (record { header = refl; tells = refl }, tt)),
          ),
        ),
      ),
    ),
  ),
)
