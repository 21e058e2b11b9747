-- A file under the lock beside it.
use Rattle.std.specs.Prelude.{◌≡◌, ◌++◌, codes}
use Rattle.sup_disk.specs.Paths.{IsFolderOf, folder_of, lock_path, path_of}
use Rattle.sup_lines.specs.Words.{Word}
use Rattle.sup_supd.specs.declared.locked.LockedFile.{LockedFile}

-- it is at this path, its name is flushed in the folder of that, and its lock is beside it
pub record IsLockedAt (path : Word) (locked : LockedFile) : Type 0 where
  pub file : path_of locked.disk ≡ path
  pub folder : IsFolderOf path (folder_of locked.disk)
  pub lock : lock_path locked._lock ≡ path ++ codes ".lock"
