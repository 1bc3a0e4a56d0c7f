-- How long the name of a file may be.
use Rattle.std.proofs.Common.{◌≡◌, ◌≤◌, List, ℕ, true, length, arith}
use Rattle.sve_bytes.specs.FileName.{is_file_name_of}

pub length-file_name : (bytes : List ℕ) → is_file_name_of bytes ≡ true → length bytes ≤ 255
length-file_name bytes is_name = grind arith
