-- The forms of the command line, in the order of docs/x7.1 (this project's choice).
use Rattle.std.specs.Prelude.{ℕ, map, String, string_bytes, List, [], ◌∷◌, Option, None, Some, ◌&&◌, if◌then◌else◌, codes, length, nat_le, nat_lt, decimal, ◌^◌}
use Rattle.std.specs.Str.Parse.{digits_value}
use Rattle.x7_text.specs.Digits.{hex_word}
use Rattle.x7_text.specs.DigitValue.{word_value}
use Rattle.std.specs.Str.{bytes_eq}
use Rattle.x7_forms.specs.declared.form.Form.{Form}
use Rattle.x7_forms.specs.declared.form.Form.TheVariants as code
use Rattle.x7_forms.specs.AskedForm.{AskedForm}
use Rattle.x7_forms.specs.AskedForm as form

-- a form of one name, where just one is given
abbrev pub one_name : (List ℕ → AskedForm) → List (List ℕ) → Option AskedForm
one_name form [] = None
one_name form (name ∷ []) = Some (form name)
one_name form (name ∷ next ∷ more) = None

-- a form of two names, where just two are given
abbrev pub two_names : (List ℕ → List ℕ → AskedForm) → List (List ℕ) → Option AskedForm
two_names form [] = None
two_names form (first ∷ []) = None
two_names form (first ∷ second ∷ []) = Some (form first second)
two_names form (first ∷ second ∷ third ∷ more) = None

-- the most streams of one `play`
abbrev pub most_streams : ℕ
most_streams = 8

-- `play PART STREAM..`, one to eight streams
abbrev pub play_form : List (List ℕ) → Option AskedForm
play_form [] = None
play_form (part ∷ streams) = if nat_le 1 (length streams) && nat_le (length streams) most_streams then Some (form.Play part streams) else None

-- `debug PART STREAM SCRIPT`
abbrev pub debug_form : List (List ℕ) → Option AskedForm
debug_form (part ∷ stream ∷ script ∷ []) = Some (form.Debug part stream script)
debug_form _ = None

-- the word of 32 bits that eight upper-case hexadecimal digits write, and none for other texts
abbrev pub word_in : List ℕ → Option ℕ
word_in digits = if bytes_eq (hex_word (word_value digits)) digits && nat_lt (word_value digits) (2 ^ 32) then Some (word_value digits) else None

-- the number below 2^32 that decimal digits without a leading zero write, and none for other texts
abbrev pub number_in : List ℕ → Option ℕ
number_in digits = if bytes_eq (decimal (digits_value 10 digits)) digits && nat_lt (digits_value 10 digits) (2 ^ 32) then Some (digits_value 10 digits) else None

-- `plan read PART FAR N`
abbrev pub plan_read_asked : List ℕ → Option ℕ → Option ℕ → Option AskedForm
plan_read_asked part (Some far) (Some slot_count) = Some (form.PlanRead part far slot_count)
plan_read_asked part _ _ = None

-- `plan read`, by the three words after it: the name of a part file, an address and a number of slots
abbrev pub plan_read_form : List (List ℕ) → Option AskedForm
plan_read_form [] = None
plan_read_form (part ∷ []) = None
plan_read_form (part ∷ far ∷ []) = None
plan_read_form (part ∷ far ∷ slot_count ∷ []) = plan_read_asked part (word_in far) (number_in slot_count)
plan_read_form (part ∷ far ∷ slot_count ∷ more ∷ others) = None

-- `plan ..`, by the second word
abbrev pub plan_form : List (List ℕ) → Option AskedForm
plan_form [] = None
plan_form (kind ∷ names) =
    if bytes_eq kind (codes "full") then two_names form.PlanFull names
    else if bytes_eq kind (codes "partial") then two_names form.PlanPartial names
    else if bytes_eq kind (codes "read") then plan_read_form names
    else None

-- `gen PART SEED`
abbrev pub gen_asked : List ℕ → Option ℕ → Option AskedForm
gen_asked part (Some seed) = Some (form.Gen part seed)
gen_asked part None = None

-- `gen`, by the two words after it: the name of a part file and a number
abbrev pub gen_form : List (List ℕ) → Option AskedForm
gen_form [] = None
gen_form (part ∷ []) = None
gen_form (part ∷ seed ∷ []) = gen_asked part (number_in seed)
gen_form (part ∷ seed ∷ more ∷ others) = None

-- `image GOLDEN UPDATE`, for parts whose start address counts bytes, or `image PART GOLDEN UPDATE`
abbrev pub image_form : List (List ℕ) → Option AskedForm
image_form (golden ∷ update ∷ []) = Some (form.Image golden update)
image_form (part ∷ golden ∷ update ∷ []) = Some (form.ImageFor part golden update)
image_form _ = None

-- the form of the words, by the first of them, where they have one
abbrev pub form_of_words : List (List ℕ) → Option AskedForm
form_of_words [] = None
form_of_words (command ∷ names) =
    if bytes_eq command (codes "list") then one_name form.List names
    else if bytes_eq command (codes "asm") then one_name form.Asm names
    else if bytes_eq command (codes "play") then play_form names
    else if bytes_eq command (codes "debug") then debug_form names
    else if bytes_eq command (codes "svf") then two_names form.Svf names
    else if bytes_eq command (codes "plan") then plan_form names
    else if bytes_eq command (codes "gen") then gen_form names
    else if bytes_eq command (codes "image") then image_form names
    else if bytes_eq command (codes "boot") then two_names form.Boot names
    else if bytes_eq command (codes "update") then two_names form.Update names
    else if bytes_eq command (codes "mcs") then one_name form.Mcs names
    else if bytes_eq command (codes "unmcs") then one_name form.Unmcs names
    else None

-- the form of words that are strings, as a program gets them
abbrev pub form_of_strings : {Z : Type 0} → List (String Z) → Option AskedForm
form_of_strings words = form_of_words (map string_bytes words)

-- what a form of the code asks for
abbrev pub asked_by : Form → AskedForm
asked_by (code.List stream) = form.List stream.now
asked_by (code.Asm text) = form.Asm text.now
asked_by (code.Play part streams) = form.Play part.now (map string_bytes streams.now)
asked_by (code.Debug part stream script) = form.Debug part.now stream.now script.now
asked_by (code.Svf part text) = form.Svf part.now text.now
asked_by (code.PlanFull part frames) = form.PlanFull part.now frames.now
asked_by (code.PlanPartial part frames) = form.PlanPartial part.now frames.now
asked_by (code.PlanRead part far slot_count) = form.PlanRead part.now far slot_count
asked_by (code.Gen part seed) = form.Gen part.now seed
asked_by (code.Image golden update) = form.Image golden.now update.now
asked_by (code.ImageFor part golden update) = form.ImageFor part.now golden.now update.now
asked_by (code.Boot part flash) = form.Boot part.now flash.now
asked_by (code.Update flash stream) = form.Update flash.now stream.now
asked_by (code.Mcs image) = form.Mcs image.now
asked_by (code.Unmcs text) = form.Unmcs text.now

-- what a form of the code asks for, where there is one
abbrev pub form_asked : Option Form → Option AskedForm
form_asked None = None
form_asked (Some form) = Some (asked_by form)

-- the names of the inputs that a form reads, in the order of its words
abbrev pub names_of : Option AskedForm → List (List ℕ)
names_of None = []
names_of (Some (form.List stream)) = stream ∷ []
names_of (Some (form.Asm text)) = text ∷ []
names_of (Some (form.Play part streams)) = part ∷ streams
names_of (Some (form.Debug part stream script)) = part ∷ stream ∷ script ∷ []
names_of (Some (form.Svf part text)) = part ∷ text ∷ []
names_of (Some (form.PlanFull part frames)) = part ∷ frames ∷ []
names_of (Some (form.PlanPartial part frames)) = part ∷ frames ∷ []
names_of (Some (form.PlanRead part far n)) = part ∷ []
names_of (Some (form.Gen part seed)) = part ∷ []
names_of (Some (form.Image golden update)) = golden ∷ update ∷ []
names_of (Some (form.ImageFor part golden update)) = part ∷ golden ∷ update ∷ []
names_of (Some (form.Boot part flash)) = part ∷ []
names_of (Some (form.Update flash stream)) = stream ∷ []
names_of (Some (form.Mcs image)) = image ∷ []
names_of (Some (form.Unmcs text)) = text ∷ []

-- what a form does with a flash: nothing, or it reads or updates the one of a name
pub data FlashUse : Type 0 where
  Unused : FlashUse
  Read : (name : List ℕ) → FlashUse
  Updated : (name : List ℕ) → FlashUse

-- what a form does with its flash: `boot` reads one, `update` updates one, and every other form names none
abbrev pub flash_use : Option AskedForm → FlashUse
flash_use (Some (form.Boot part flash)) = Read flash
flash_use (Some (form.Update flash stream)) = Updated flash
flash_use form = Unused

-- the name of the flash in a use, where it has one: a list of one name or none
abbrev pub names_used : FlashUse → List (List ℕ)
names_used Unused = []
names_used (Read name) = name ∷ []
names_used (Updated name) = name ∷ []

-- the name of the flash that a form reads or updates: a list of one name or none
abbrev pub flash_names : Option AskedForm → List (List ℕ)
flash_names form = names_used (flash_use form)

-- of `list` the name of its stream, which is listed while it is read; every other form has none
abbrev pub listed_by : Option AskedForm → Option (List ℕ)
listed_by (Some (form.List stream)) = Some stream
listed_by form = None

-- of `update` the name of the stream that its flash is updated with; every other form has none
abbrev pub updated_by : Option AskedForm → Option (List ℕ)
updated_by (Some (form.Update flash stream)) = Some stream
updated_by form = None
