-- The files of the file system.
use Rattle.std.specs.Borrow.{Bor}
use Rattle.yfolder.specs.declared.disk.Disk.{Disk}

-- the files that this runtime reaches
abbrev pub disk_over : {F : Type 0} → Bor F → Disk F
disk_over files = record { files = files }
