-- Names read back: the register number or the command's code of a name, and its place in a table (this project's
-- choice).
use Rattle.std.specs.Prelude.{◌≡◌, ℕ, ◌+◌, ◌-◌, ◌*◌, ◌%◌, ◌<◌, List, length, get_or}
use Rattle.x7_regs.specs.Register.{reg_name, reg_number_count}
use Rattle.x7_regs.specs.Command.{code_of, command_name_limit, command_name_of}
use Rattle.x7_regs.specs.declared.command.Command.{Command}

-- the text is the name of the register number, which is below 32
pub record IsRegName (text : List ℕ) (number : ℕ) : Type 0 where
  pub below : number < reg_number_count
  pub name : text ≡ reg_name number

-- the text is the name of a command with this code
pub record IsCommandName (text : List ℕ) (code : ℕ) : Type 0 where
  pub command : Command
  pub name : text ≡ command_name_of command
  pub same_code : code ≡ code_of command

-- how many bytes a text that is looked up has at least: a place in a table is made of the first two bytes, the last and
-- the length; each name has three or more
abbrev pub shortest_name : ℕ
shortest_name = 2

-- how many bytes a name of either table has at most: the longest is that of a command
abbrev pub longest_name : ℕ
longest_name = command_name_limit

-- how many places a table of names has
abbrev pub place_count : ℕ
place_count = 64

-- how often a name's second byte counts in its place; all that is asked of this weight and of those of the last byte
-- and the length is that no two names of a table share a place
abbrev pub second_weight : ℕ
second_weight = 13

-- how often a name's last byte counts in its place
abbrev pub last_weight : ℕ
last_weight = 3

-- how often a name's length counts in its place
abbrev pub length_weight : ℕ
length_weight = 2

-- the place of a name in a table, from 0, which no two register numbers and no two commands share
abbrev pub place_of_name : List ℕ → ℕ
place_of_name name =
    (get_or name 0 0 + second_weight * get_or name 1 0 + last_weight * get_or name (length name - 1) 0 + length_weight * length name)
    % place_count
