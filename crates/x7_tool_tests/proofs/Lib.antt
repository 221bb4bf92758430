mod AskingLemmas
