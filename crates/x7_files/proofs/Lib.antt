mod FileLemmas
mod FileFlashLemmas
mod FileInputsLemmas
