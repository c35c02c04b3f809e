-- Which program this is.
use Rattle.std.specs.Prelude.{ℕ, List, codes}

unfoldable pub version_text : List ℕ
version_text = codes "dmstack 1, proved with rattle logic dac8208d650f15bf\n"
