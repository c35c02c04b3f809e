-- The pages of the manual.
use Rattle.std.specs.Prelude.{ℕ, ◌++◌, List, [], ◌∷◌, codes, find, Option}
use Rattle.std.specs.Str.{bytes_eq}
use Rattle.manual_pages.specs.declared.page.Page.{Page}
use Rattle.manual_pages.specs.declared.pages.TheConstants.{PROGRAM_PAGE, ASSEMBLE_PAGE, CAT_PAGE, COPY_PAGE, DIFF_PAGE, DUMP_PAGE, FIND_PAGE, FORMAT_PAGE, LOAD_PAGE, MANUAL_PAGE, NBD_PAGE, PARTITIONS_PAGE, READ_PAGE, REPAIR_PAGE, SCAN_PAGE, SESSION_PAGE, STORE_PAGE, TABLE_PAGE, UPDATE_PAGE, VERIFY_PAGE, VERSION_PAGE, WRITE_PAGE}

-- a command's name, or an empty one for the page of the program; and what is printed
pub record PageRecord : Type 0 where
  pub name : List ℕ
  pub text : List ℕ

abbrev pub page_text : List ℕ → List ℕ → PageRecord
page_text name text = record { name = name; text = text }

abbrev pub page_record : Page → PageRecord
page_record page = page_text page.name.now page.text.now

-- the program's page, and those of the commands on stacks
unfoldable pub stack_pages : List PageRecord
stack_pages =
    page_text [] PROGRAM_PAGE.now ∷
    page_text (codes "load") LOAD_PAGE.now ∷
    page_text (codes "read") READ_PAGE.now ∷
    page_text (codes "write") WRITE_PAGE.now ∷
    page_text (codes "session") SESSION_PAGE.now ∷
    page_text (codes "nbd") NBD_PAGE.now ∷
    page_text (codes "scan") SCAN_PAGE.now ∷
    page_text (codes "copy") COPY_PAGE.now ∷
    page_text (codes "cat") CAT_PAGE.now ∷
    page_text (codes "store") STORE_PAGE.now ∷ []

-- those of the commands on images, and of `manual` and `version`
unfoldable pub image_pages : List PageRecord
image_pages =
    page_text (codes "format") FORMAT_PAGE.now ∷
    page_text (codes "verify") VERIFY_PAGE.now ∷
    page_text (codes "dump") DUMP_PAGE.now ∷
    page_text (codes "table") TABLE_PAGE.now ∷
    page_text (codes "repair") REPAIR_PAGE.now ∷
    page_text (codes "update") UPDATE_PAGE.now ∷
    page_text (codes "partitions") PARTITIONS_PAGE.now ∷
    page_text (codes "assemble") ASSEMBLE_PAGE.now ∷
    page_text (codes "find") FIND_PAGE.now ∷
    page_text (codes "diff") DIFF_PAGE.now ∷
    page_text (codes "manual") MANUAL_PAGE.now ∷
    page_text (codes "version") VERSION_PAGE.now ∷ []

unfoldable pub page_in : List PageRecord → List ℕ → Option PageRecord
page_in pages name = find (λ page. bytes_eq page.name name) pages

-- the page of that name
abbrev pub page_of : List ℕ → Option PageRecord
page_of name = page_in (stack_pages ++ image_pages) name
