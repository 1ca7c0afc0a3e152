-- What contracts see of a disk with bytes of its own.
use Rattle.std.specs.Prelude.{Option}
use Rattle.disk_trait.specs.Images.{Told}
use Rattle.call_disk.specs.Owned.{told_where}
use Rattle.call_disk.specs.declared.owned.OwnedDisk.{OwnedDisk}

abbrev pub tells : OwnedDisk → Option Told
tells disk = told_where disk.is_there disk.bytes.items disk.calls
